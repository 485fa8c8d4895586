-- A device that was disabled is started again, where its drivers agree and the search finds something: step by step.
use Rattle.std.proofs.Common.{ℕ, ◌+◌, ◌≡◌, ◌≢◌, ◌==◌, Bool, true, false, not, List, [], ◌∷◌, ◌++◌, length, nat_le, Option, Some, None, refl, sym, ap, ap₂, ◌∙◌, subst, arith, cond}
use Rattle.std.specs.List.{AllByRecursion, find}
use Rattle.std.specs.Prelude.{◌&&◌}
use Rattle.std.proofs.lemmas.Bool.Decides.{nat_tests}
use Rattle.device_ids.specs.Folding.{same}
use Rattle.resource_reqs.specs.Resources.{Res}
use Rattle.resource_reqs.specs.Spelling.{IsAnswer}
use Rattle.resource_reqs.specs.Spelling.Answer.{assignment}
use Rattle.pnp_labels.specs.Texts.{Text}
use Rattle.pnp_labels.specs.declared.label.Label.{Label}
use Rattle.pnp_labels.specs.declared.states.DevState.{DevState}
use Rattle.pnp_labels.specs.declared.states.DevState.TheVariants.{NoStack, NotStarted, Started}
use Rattle.pnp_labels.specs.declared.words.Answer.{Answer}
use Rattle.pnp_labels.specs.declared.words.AskWhat.{AskWhat}
use Rattle.pnp_labels.specs.declared.words.Minor.{Minor}
use Rattle.pnp_model.specs.Books.{driver_named, name_of, rack_reply}
use Rattle.pnp_model.specs.Cores.{node_at, set_problem, set_state, stacked, with_holds, with_problem, with_stack, with_state}
use Rattle.pnp_model.specs.Frames.{held_by, is_beside}
use Rattle.pnp_model.specs.Keyed.{those}
use Rattle.pnp_model.specs.Machine as ma
use Rattle.pnp_model.specs.Records.{Choice, Core, Device, Driver, Duty, Found, Node, Phase, Relation, Settings, State, Step}
use Rattle.pnp_model.specs.Records.Doing.{Does}
use Rattle.pnp_model.specs.Starts as st
use Rattle.pnp_model.specs.Starts.{adding, own_part, own_problem}
use Rattle.pnp_model.specs.Tasks as tk
use Rattle.pnp_model.specs.Tests.{has_same}
use Rattle.pnp_model.specs.Trees.{children, is_child}
use Rattle.pnp_pairs.specs.DisabledAndEnabled.{HasNoRule}
use Rattle.pnp_pairs.proofs.Agreeing.{core_stays, says_ok}
use Rattle.pnp_pairs.proofs.Disabling.{disabled, owes, stood}
use Rattle.pnp_pairs.proofs.Leading.{Leads, leads_on, searches_on, stays, steps_on}
use Rattle.pnp_pairs.proofs.Placing.{any_put, at_put, put, put_changed, those_put}
use Rattle.pnp_pairs.proofs.Walking.{acts_next, in_phase, is_over, moves_on, starts_all, walk_at}

-- these drivers of the rack are those that the INFs name for the device: lower filters, its own, upper filters
pub record IsChosen (settings : Settings) (rack : List Driver) (n : Node) (drivers : List ℕ) : Type 0 where
  pub choice : Choice
  pub best : settings.best n.hw n.compat ≡ Some choice
  pub service : Text
  pub has_service : choice.service ≡ Some service
  pub few : nat_le (length choice.lower + 1 + length choice.upper) 16 ≡ true
  pub lower : List ℕ
  pub own : ℕ
  pub upper : List ℕ
  pub lower_are : tk.numbered rack choice.lower ≡ Some lower
  pub own_is : driver_named service rack ≡ Some own
  pub upper_are : tk.numbered rack choice.upper ≡ Some upper
  pub all : drivers ≡ lower ++ own ∷ upper

-- nobody else than before is found
pub alike_found : {A : Type 0} (p q : A → Bool) → ((x : A) → p x ≡ q x) → (xs : List A) → find p xs ≡ find q xs
alike_found p q alike [] = refl
alike_found {A = A} p q alike (x ∷ xs) = ap₂ (λ (b : Bool) (o : Option A). cond b (Some x) o) (alike x) (alike_found p q alike xs)

pub nil_end : {A : Type 0} (xs : List A) → xs ++ [] ≡ xs
nil_end [] = refl
nil_end {A = A} (x ∷ xs) = ap (λ (ys : List A). x ∷ ys) (nil_end xs)

pub one_end : (xs : List ℕ) (y : ℕ) (ys : List ℕ) → (xs ++ y ∷ []) ++ ys ≡ xs ++ y ∷ ys
one_end [] y ys = refl
one_end (x ∷ xs) y ys = ap (λ (zs : List ℕ). x ∷ zs) (one_end xs y ys)

-- the device while it starts: it has these drivers, is in this state and holds this
abbrev pub with_all : Node → List ℕ → DevState → List Res → Node
with_all n drivers state holds = record n { stack = drivers; state = state; problem = None; holds = holds }

module _ (settings : Settings) (s : State) (n : Node) (d : ℕ) (ds : List ℕ) (stack : n.stack ≡ d ∷ ds) (at : node_at n.serial s.core.nodes ≡ Some n) (below : n.parent ≢ n.serial) (rels : List Relation)
    (enabled : has_same n.path s.disabled ≡ false) (childless : children n.serial s.core.nodes ≡ []) (none_joins : tk.joining n.born s.core.nodes s.world ≡ None)
    (steady : AllByRecursion (HasNoRule s.core.rack n.path) n.stack) (chosen : IsChosen settings s.core.rack n n.stack)
    (plan : List (List Res)) (answer : IsAnswer (own_problem s.core n).fixed (own_problem s.core n).movers settings.budget (assignment plan)) where
  abbrev k : ℕ
  k = n.serial

  -- the core with the device so
  abbrev core : List ℕ → DevState → List Res → Core
  core drivers state holds = put (with_all n drivers state holds) rels s.core

  abbrev base : List ℕ → DevState → List Res → State
  base drivers state holds = stood (with_all n drivers state holds) rels s

  there : (m : Node) → m.serial ≡ k → node_at m.serial (put m rels s.core).nodes ≡ Some m
  there m e = at_put m n s.core.nodes (ap (λ (i : ℕ). node_at i s.core.nodes) e ∙ at)

  -- its drivers are chosen

  abbrev off : State
  off = stood (disabled n) rels s

  installs : tk.install_best (owes Duty.Starting k off) (disabled n) (settings.best n.hw n.compat) ≡ tk.install (owes Duty.Starting k off) (disabled n) chosen.choice.rank chosen.own n.stack
  installs =
      let before = owes Duty.Starting k off in
      let m = disabled n in
      let c = chosen.choice in
      ap (λ (o : Option Choice). tk.install_best before m o) chosen.best
      ∙ ap (λ (o : Option Text). tk.install_service before m c o) chosen.has_service
      ∙ ap (λ (b : Bool). tk.install_few before m c chosen.service b) chosen.few
      ∙ ap (λ (o : Option (List ℕ)). tk.install_named before m c.rank o (driver_named chosen.service s.core.rack) (tk.numbered s.core.rack c.upper)) chosen.lower_are
      ∙ ap (λ (o : Option ℕ). tk.install_named before m c.rank (Some chosen.lower) o (tk.numbered s.core.rack c.upper)) chosen.own_is
      ∙ ap (λ (o : Option (List ℕ)). tk.install_named before m c.rank (Some chosen.lower) (Some chosen.own) o) chosen.upper_are
      ∙ ap (λ (drivers : List ℕ). tk.install before m c.rank chosen.own drivers) (sym chosen.all)

  installs_next : ma.next settings (owes Duty.Starting k off) ≡ Some (Does (tk.install (owes Duty.Starting k off) (disabled n) chosen.choice.rank chosen.own n.stack))
  installs_next =
      let before = owes Duty.Starting k off in
      ap (λ (o : Option Node). Some (Does (tk.start_step settings before k o))) (there (disabled n) refl)
      ∙ ap (λ (b : Bool). Some (Does (tk.start_enabled settings before (disabled n) b))) enabled
      ∙ ap (λ (x : Step). Some (Does x)) installs

  no_problem : set_problem k None (put (disabled n) rels s.core) ≡ core [] NoStack []
  no_problem = put_changed (disabled n) (with_problem None) rels s.core refl

  -- one driver after another

  adds_next : (have : List ℕ) (state : DevState) (e : ℕ) (es : List ℕ) → HasNoRule s.core.rack n.path e
      → ma.next settings (in_phase (base have state []) k (Phase.Adding (e ∷ es)))
      ≡ Some (Does (record { label = Label.Add n.path (name_of s.core.rack e) true; state = in_phase (base (have ++ e ∷ []) (stacked state) []) k (adding es) }))
  adds_next have state e es free =
      let m = with_all n have state [] in
      let c = core have state [] in
      let b = base have state [] in
      let phase = Phase.Adding (e ∷ es) in
      let more = have ++ e ∷ [] in
      acts_next settings b m (there m refl) phase refl
      ∙ ap (λ (x : Core). Some (Does (ma.start_lifted (in_phase b k phase) k (st.add_driver x m e es (rack_reply AskWhat.Add n.path s.core.rack e))))) (core_stays c n.path e AskWhat.Add free)
      ∙ ap (λ (x : Answer). Some (Does (ma.start_lifted (in_phase b k phase) k (st.add_driver c m e es x)))) (says_ok s.core.rack n.path e AskWhat.Add free)
      ∙ ap (λ (x : Step). Some (Does x)) (moves_on b k phase (st.add_driver c m e es Answer.Ok) refl)
      ∙ ap (λ (x : Core). Some (Does (let step : Step = record { label = Label.Add n.path (name_of s.core.rack e) true; state = in_phase (record b { core = x }) k (adding es) } in step)))
      (put_changed m (with_stack more (stacked state)) rels s.core refl)

  adds_all : (todo have : List ℕ) → have ++ todo ≡ n.stack → AllByRecursion (HasNoRule s.core.rack n.path) todo
      → Leads settings (in_phase (base have NotStarted []) k (adding todo)) (in_phase (base n.stack NotStarted []) k Phase.Searching)
  adds_all [] have e all =
      subst (λ (drivers : List ℕ). Leads settings (in_phase (base have NotStarted []) k Phase.Searching) (in_phase (base drivers NotStarted []) k Phase.Searching)) (sym (nil_end have) ∙ e) (stays settings _)
  adds_all (e ∷ es) have is all =
      steps_on settings _ _ (record { label = Label.Add n.path (name_of s.core.rack e) true; state = in_phase (base (have ++ e ∷ []) NotStarted []) k (adding es) }) (adds_next have NotStarted e es all.0)
      (adds_all es (have ++ e ∷ []) (one_end have e es ∙ is) all.1)

  -- the first of them makes it NotStarted
  added : AllByRecursion (HasNoRule s.core.rack n.path) (d ∷ ds) → Leads settings (in_phase (base [] NoStack []) k (adding (d ∷ ds))) (in_phase (base n.stack NotStarted []) k Phase.Searching)
  added all =
      steps_on settings _ _ (record { label = Label.Add n.path (name_of s.core.rack d) true; state = in_phase (base (d ∷ []) NotStarted []) k (adding ds) }) (adds_next [] NoStack d ds all.0)
      (adds_all ds (d ∷ []) (sym stack) all.1)

  -- what is searched is what was searched without it

  abbrev holds : List Res
  holds = own_part plan

  others_same : (m : Node) → m.serial ≡ k → those (is_beside (k ∷ [])) (put m rels s.core).nodes ≡ those (is_beside (k ∷ [])) s.core.nodes
  others_same m e =
      let same : m.serial ≡ k = e in
      let new : is_beside (k ∷ []) m ≡ false = grind (arith, nat_tests) in
      let old : is_beside (k ∷ []) n ≡ false = grind (arith, nat_tests) in
      those_put (is_beside (k ∷ [])) m n s.core.nodes (ap (λ (i : ℕ). node_at i s.core.nodes) e ∙ at) new old

  fitted : Leads settings (in_phase (base n.stack NotStarted []) k Phase.Searching) (in_phase (base n.stack NotStarted holds) k (Phase.Starting (walk_at Minor.Start 0)))
  fitted =
      let m = with_all n n.stack NotStarted [] in
      let c = core n.stack NotStarted [] in
      let b = base n.stack NotStarted [] in
      let now = in_phase b k Phase.Searching in
      let found : IsAnswer (own_problem c m).fixed (own_problem c m).movers settings.budget (assignment plan) =
      subst (λ (xs : List Node). IsAnswer (s.core.reserved ++ held_by xs) (n.reqs ∷ []) settings.budget (assignment plan)) (sym (others_same m refl)) answer in
      let goes : ma.start_lifted now k (st.searched c m (assignment plan)) ≡ record { label = Label.Assign n.path holds; state = in_phase (base n.stack NotStarted holds) k (Phase.Starting (walk_at Minor.Start 0)) } =
      moves_on b k Phase.Searching (st.searched c m (assignment plan)) refl
      ∙ ap (λ (x : Core). let step : Step = record { label = Label.Assign n.path holds; state = in_phase (record b { core = x }) k (Phase.Starting (walk_at Minor.Start 0)) } in step) (put_changed m (with_holds holds) rels s.core refl) in
      searches_on settings now _ (own_problem c m) (λ (x : Found). ma.start_lifted now k (st.searched c m x)) (assignment plan) (acts_next settings b m (there m refl) Phase.Searching refl) found
      (subst (λ (x : Step). Leads settings x.state (in_phase (base n.stack NotStarted holds) k (Phase.Starting (walk_at Minor.Start 0)))) (sym goes) (stays settings _))

  -- it starts, and is up

  abbrev pub back : State
  back = base n.stack Started holds

  up_next : ma.next settings (in_phase (base n.stack NotStarted holds) k (Phase.Starting (walk_at Minor.Start (length n.stack)))) ≡ Some (Does (record { label = Label.State n.path Started; state = owes Duty.Listing k back }))
  up_next =
      let m = with_all n n.stack NotStarted holds in
      let c = core n.stack NotStarted holds in
      let b = base n.stack NotStarted holds in
      let w = walk_at Minor.Start (length n.stack) in
      let now = in_phase b k (Phase.Starting w) in
      let own : (k == k) ≡ true = grind (arith, nat_tests) in
      acts_next settings b m (there m refl) (Phase.Starting w) refl
      ∙ ap (λ (x : Bool). Some (Does (ma.start_lifted now k (st.start_on c m w x)))) (is_over Minor.Start (length n.stack))
      ∙ ap (λ (x : Bool). Some (Does (let step : Step = record { label = Label.State n.path Started; state = record (owes Duty.Listing k b) { core = set_state k Started c; activities = cond x [] (record { serial = k; phase = Phase.Starting w } ∷ []) } } in step))) own
      ∙ ap (λ (x : Core). Some (Does (let step : Step = record { label = Label.State n.path Started; state = record (owes Duty.Listing k b) { core = x } } in step))) (put_changed m (with_state Started) rels s.core refl)

  -- nobody is below it

  abbrev last : Node
  last = with_all n n.stack Started holds

  joins_same : (x : Device) → tk.joins n.born (put last rels s.core).nodes x ≡ tk.joins n.born s.core.nodes x
  joins_same x =
      ap₂ (λ (a b : Bool). x.parent == n.born && not a && not b) (any_put (λ (y : Node). y.born == x.born) last n s.core.nodes at refl) (any_put (λ (y : Node). same y.path x.path) last n s.core.nodes at refl)

  none_below : children k (put last rels s.core).nodes ≡ []
  none_below = let apart : (n.parent == k) ≡ false = grind (arith, nat_tests) in those_put (is_child k) last n s.core.nodes at (no_child apart) (no_child apart) ∙ childless
    where
      no_child : (n.parent == k) ≡ false → (n.parent == k && not (k == 0)) ≡ false
      no_child e = ap (λ (b : Bool). b && not (k == 0)) e

  lists_next : ma.next settings (owes Duty.Listing k back) ≡ Some (Does (record { label = Label.Listed n.path; state = back }))
  lists_next =
      let now = owes Duty.Listing k back in
      ap (λ (o : Option Node). Some (Does (tk.list_step now k o))) (there last refl)
      ∙ ap (λ (o : Option Device). Some (Does (tk.join_or_on now last o))) (alike_found (tk.joins n.born (put last rels s.core).nodes) (tk.joins n.born s.core.nodes) joins_same s.world ∙ none_joins)
      ∙ ap (λ (ns : List Node). Some (Does (tk.gone_or_listed now last (find (tk.is_gone now) ns)))) none_below

  -- the steps of its start
  pub starts_again : Leads settings (owes Duty.Starting k off) back
  starts_again =
      steps_on settings _ _ (tk.install (owes Duty.Starting k off) (disabled n) chosen.choice.rank chosen.own n.stack) installs_next
      (subst (λ (x : Core). Leads settings (in_phase (record (base [] NoStack []) { core = x }) k (adding n.stack)) back) (sym no_problem)
      (subst (λ (drivers : List ℕ). Leads settings (in_phase (base [] NoStack []) k (adding drivers)) back) (sym stack)
      (leads_on settings _ _ _ (added (subst (λ (drivers : List ℕ). AllByRecursion (HasNoRule s.core.rack n.path) drivers) stack steady))
      (leads_on settings _ _ _ fitted
      (leads_on settings _ _ _ (starts_all settings (base n.stack NotStarted holds) (with_all n n.stack NotStarted holds) steady (there (with_all n n.stack NotStarted holds) refl) (length n.stack) 0 (omega arith))
      (steps_on settings _ _ (record { label = Label.State n.path Started; state = owes Duty.Listing k back }) up_next
      (steps_on settings _ _ (record { label = Label.Listed n.path; state = back }) lists_next (stays settings back))))))))
