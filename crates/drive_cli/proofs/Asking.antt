-- That the machine asks for the queries of live drivers, and for no other.
use Rattle.std.proofs.Common.{ℕ, ◌≡◌, Bool, true, false, Option, Some, None, map, sym, ap, ◌∙◌, subst}
use Rattle.std.specs.Prelude.{if◌then◌else◌}
use Rattle.pnp_labels.specs.Texts.{Text, res_text}
use Rattle.pnp_model.specs.Books.{name_of, printed_name}
use Rattle.pnp_labels.specs.declared.words.AskWhat.{AskWhat}
use Rattle.pnp_model.specs.Cores.{node_at}
use Rattle.pnp_model.specs.Records.{Node, Settings, State}
use Rattle.pnp_model.specs.States.{node_of}
use Rattle.driver_rack.specs.Rows.{name_in}
use Rattle.pnp_laws.specs.Stacks.{IsNamed}
use Rattle.free_model.specs.Asks.{Query, next_query}
use Rattle.live_laws.proofs.LivedStates.{own_path}
use Rattle.live_model.specs.Lived.{IsLived}
use Rattle.live_model.specs.Lives.{Lives, is_live, live_if, live_query}
use Rattle.live_model.specs.Notes.{ask_words, held_by, may_pend, query_words, what_text}
use Rattle.live_run.specs.Views.{IfAsks}
use Rattle.live_run.specs.declared.asks.LiveAsk.{LiveAsk}

-- where nobody is asked next
pub nobody : (lives : Lives) (s : State) → next_query s ≡ None → IfAsks None s (live_query lives s)
nobody lives s none = subst (λ (o : Option Query). IfAsks None s (live_if lives s.core.rack o)) (sym none) tt

-- what the driver is called that is asked next
named : (s : State) (q : Query) (name : Text) → name_in s.core.rack q.driver ≡ Some name → name_of s.core.rack q.driver ≡ name
named s q name is = ap printed_name is

-- the ask of a query, for a device that its path names
pub somebody : (lives : Lives) (told : Settings) (s : State) (what : AskWhat) (driver : ℕ) (name : Text) (node : Node) (ask : LiveAsk) → IsLived told s
    → next_query s ≡ Some (record { what = what; path = node.path; driver = driver }) → name_in s.core.rack driver ≡ Some name → is_live lives name ≡ true
    → node_at node.serial s.core.nodes ≡ Some node → ask.words.items ≡ ask_words (what_text what) node.path name (map res_text (held_by what (Some node)))
    → ask.driver ≡ name → ask.may_pend ≡ may_pend what → IfAsks (Some ask) s (live_query lives s)
somebody lives told s what driver name node ask lived next is live at words own_driver pend =
    let q : Query = record { what = what; path = node.path; driver = driver } in
    let own : name_of s.core.rack driver ≡ name = named s q name is in
    let test : is_live lives (name_of s.core.rack driver) ≡ true = ap (is_live lives) own ∙ live in
    let found : node_of node.path s.core.nodes ≡ Some node = own_path told s node.serial node lived at in
    let said : ask.words.items ≡ query_words s q =
    words ∙ ap (λ (t : Text). ask_words (what_text what) node.path t (map res_text (held_by what (Some node)))) (sym own)
    ∙ ap (λ (n : Option Node). ask_words (what_text what) node.path (name_of s.core.rack driver) (map res_text (held_by what n))) (sym found)
    in
    subst (λ (o : Option Query). IfAsks (Some ask) s (live_if lives s.core.rack o)) (sym next)
    (subst (λ (b : Bool). IfAsks (Some ask) s (if b then Some q else None)) (sym test) (record { words = said; driver = own_driver ∙ sym own; may_pend = pend }))

pub another : (lives : Lives) (s : State) (q : Query) (name : Text) → next_query s ≡ Some q → name_in s.core.rack q.driver ≡ Some name → is_live lives name ≡ false → IfAsks None s (live_query lives s)
another lives s q name next is other =
    let test : is_live lives (name_of s.core.rack q.driver) ≡ false = ap (is_live lives) (named s q name is) ∙ other in
    subst (λ (o : Option Query). IfAsks None s (live_if lives s.core.rack o)) (sym next)
    (subst (λ (b : Bool). IfAsks None s (if b then Some q else None)) (sym test) tt)

-- a driver that is asked has a name
pub unnamed : (lives : Lives) (s : State) (d : ℕ) → IsNamed s.core.rack d → name_in s.core.rack d ≡ None → IfAsks None s (live_query lives s)
unnamed lives s d (name, has) none = absurd (cc)
