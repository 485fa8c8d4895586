-- Two devices are related, as the machine has it.
use Rattle.std.specs.Prelude.{◌≡◌, ℕ, Bool, true, false, ◌&&◌, List, [], ◌∷◌, ◌++◌, Option, Some, None, Result, Ok, Err, map}
use Rattle.pnp_model.specs.Keyed.{those}
use Rattle.pnp_model.specs.Records.{Node, Core, Relation, State}
use Rattle.pnp_model.specs.Removals.{is_ejecting}
use Rattle.pnp_model.specs.States.{with_core}
use Rattle.pnp_model.specs.Events.{refused, did, relates_two}
use Rattle.pnp_model.specs.Trees.{is_up}
use Rattle.pnp_labels.specs.declared.words.RelKind.{RelKind}
use Rattle.pnp_labels.specs.declared.deed.Deed.{Deed}
use Rattle.pnp_labels.specs.declared.label.EventWord.{EventWord}
use Rattle.pnp_labels.specs.declared.label.Reason.{Reason}
use Rattle.devnode_tree.specs.Cores.{at_related}
use Rattle.relations.specs.declared.error.RelateError.{RelateError}
use Rattle.relations.specs.declared.error.RelateError.TheVariants.{SelfRelation, SameRelation, RelationCycle, NotStarted, WantOfMemory}

-- the line and the state after it, by the answer; after want of memory nothing has happened
abbrev pub Relates : State → RelKind → Node → Node → List Relation → Result (Unit {0}) RelateError → List Relation → Type 0
Relates s kind owner member old (Ok done) new =
    relates_two s kind owner member
    ≡ did (Deed.Related kind owner.path member.path) (with_core (record s.core { relations = new }) s)
Relates s kind owner member old (Err SelfRelation) new =
    (new ≡ old) × (relates_two s kind owner member ≡ refused EventWord.Relate Reason.SelfRelation s)
Relates s kind owner member old (Err SameRelation) new =
    (new ≡ old) × (relates_two s kind owner member ≡ refused EventWord.Relate Reason.SameRelation s)
Relates s kind owner member old (Err RelationCycle) new =
    (new ≡ old) × (relates_two s kind owner member ≡ refused EventWord.Relate Reason.RelationCycle s)
Relates s kind owner member old (Err NotStarted) new =
    (new ≡ old) × (relates_two s kind owner member ≡ refused EventWord.Relate Reason.NotStarted s)
Relates s kind owner member old (Err WantOfMemory) new = new ≡ old

-- in each state with these nodes and relations
abbrev pub RelatesFor : Option Node → Option Node → List Node → RelKind → List Relation → Result (Unit {0}) RelateError → List Relation → Type 0
RelatesFor None member nodes kind old result new = ⊥
RelatesFor (Some owner) None nodes kind old result new = ⊥
RelatesFor (Some owner) (Some member) nodes kind old result new =
    (s : State) (around : Core) → s.core ≡ at_related nodes old around → Relates s kind owner member old result new

-- of two that are neither one, nor related, nor in a cycle: by whether both are Started
abbrev pub RelatesFree : Bool → Relation → List Relation → Result (Unit {0}) RelateError → List Relation → Type 0
RelatesFree true r old (Ok done) new = new ≡ old ++ r ∷ []
RelatesFree false r old (Err NotStarted) new = new ≡ old
RelatesFree up r old (Err WantOfMemory) new = new ≡ old
RelatesFree up r old result new = ⊥

abbrev pub are_up : Option Node → Option Node → Bool
are_up owner member = is_up owner && is_up member

-- the members of ejection relations whose owner is one of these
abbrev pub ejected : List Relation → List ℕ → List ℕ
ejected relations owners = map (λ r. r.member) (those (is_ejecting owners) relations)
