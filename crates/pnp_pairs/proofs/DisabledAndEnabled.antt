-- A device that is disabled and enabled stands as it stood.
use Rattle.std.proofs.Common.{ℕ, ◌≡◌, ◌≢◌, ◌==◌, Bool, true, false, List, [], ◌∷◌, ◌++◌, Option, Some, None, refl, sym, ap, ap₂, ◌∙◌, subst, arith, cond, if◌then◌else◌}
use Rattle.std.specs.List.{find, list_any}
use Rattle.std.specs.Prelude.{◌||◌}
use Rattle.std.specs.Str.{bytes_eq}
use Rattle.std.proofs.lemmas.Bool.Decides.{nat_tests}
use Rattle.std.proofs.lemmas.Slice.Eq.{bytes_eq-Decides}
use Rattle.device_ids.specs.Folding.{folded, same}
use Rattle.resource_reqs.specs.Resources.{Res}
use Rattle.resource_reqs.specs.Spelling.{IsAnswer}
use Rattle.resource_reqs.specs.Spelling.Answer.{assignment}
use Rattle.pnp_labels.specs.Texts.{Text}
use Rattle.pnp_labels.specs.declared.deed.Deed.{Deed}
use Rattle.pnp_labels.specs.declared.event.Event.{Event}
use Rattle.pnp_labels.specs.declared.label.EventWord.{EventWord}
use Rattle.pnp_labels.specs.declared.label.Label.{Label}
use Rattle.pnp_labels.specs.declared.label.OpKind.{OpKind}
use Rattle.pnp_labels.specs.declared.label.Reason.{Reason}
use Rattle.pnp_labels.specs.declared.states.DevState.{DevState}
use Rattle.pnp_labels.specs.declared.states.DevState.TheVariants.{NoStack, Started}
use Rattle.pnp_model.specs.Cores.{forget, is_node, node_at}
use Rattle.pnp_model.specs.Events as events
use Rattle.pnp_model.specs.Events.{did, happens}
use Rattle.pnp_model.specs.Keyed.{changed_first, without_first}
use Rattle.pnp_model.specs.Laws.{Reaches, is_up_to_now}
use Rattle.pnp_model.specs.Records.{Core, Driver, Duty, Node, Relation, Settings, State}
use Rattle.pnp_model.specs.Runs.{Entry, Run}
use Rattle.pnp_model.specs.Runs.Entry.{Happens, Did, Declines}
use Rattle.pnp_model.specs.Starts.{own_part, own_problem}
use Rattle.pnp_model.specs.States.{append_task, enable_path, node_of}
use Rattle.pnp_model.specs.Tests.{has_same}
use Rattle.pnp_laws.specs.Kept.{Ascending}
use Rattle.pnp_laws.proofs.Lookups.{find_passes, node_found}
use Rattle.pnp_laws.proofs.Reaching.{run_on}
use Rattle.pnp_laws.proofs.RunsShare.{nothing_clashes}
use Rattle.pnp_laws.proofs.RunsStacks.{keyed, stacks_fit}
use Rattle.pnp_laws.proofs.RunsStand.{Kept, reaches_kept}
use Rattle.pnp_laws.proofs.RunsWhole.{all_hold_whole}
use Rattle.pnp_promises.specs.Later.{NoneDeclined, happened}
use Rattle.pnp_pairs.specs.DisabledAndEnabled.{DisabledAndEnabledLaw, IsStill, StandsAlone, with_anew}
use Rattle.pnp_pairs.proofs.Alone.{childless, leaves_alone}
use Rattle.pnp_pairs.proofs.ChosenStacks.{is_chosen}
use Rattle.pnp_pairs.proofs.Disabling.{disabled, disables, owes, rests, stood}
use Rattle.pnp_pairs.proofs.Enabling.{IsChosen, nil_end, starts_again, with_all}
use Rattle.pnp_pairs.proofs.HeldFits.{finds_some}
use Rattle.pnp_pairs.proofs.Leading.{Leads, OnlySteps}
use Rattle.pnp_pairs.proofs.OneRun.{one_run}
use Rattle.pnp_pairs.proofs.Placing.{find_put, put, put_changed, put_self}
use Rattle.pnp_pairs.proofs.SameDrivers.{same_back}

-- Paths that are one but for their letters --------------------------------------------------------------------

same_as : (a b c : Text) → same a b ≡ true → same a c ≡ same b c
same_as a b c e = ap (λ (x : List ℕ). bytes_eq x (folded c)) ((bytes_eq-Decides (folded a) (folded b)).0 e)

has_same_as : (a b : Text) (paths : List Text) → same a b ≡ true → has_same a paths ≡ has_same b paths
has_same_as a b [] e = refl
has_same_as a b (p ∷ paths) e = ap₂ (λ (x y : Bool). x || y) (same_as a b p e) (has_same_as a b paths e)

-- what was put last, where none passed before
found_last : (test : Text → Bool) (paths : List Text) (path : Text) → list_any test paths ≡ false → test path ≡ true → find test (paths ++ path ∷ []) ≡ Some path
found_last test [] path none own = ap (λ (b : Bool). cond b (Some path) None) own
found_last test (p ∷ paths) path none own = by_test (test p) none (λ h. found_last test paths path h own)
  where
    by_test : (b : Bool) → (b || list_any test paths) ≡ false → (list_any test paths ≡ false → find test (paths ++ path ∷ []) ≡ Some path) → cond b (Some p) (find test (paths ++ path ∷ [])) ≡ Some path
    by_test true h more = absurd (cc)
    by_test false h more = more h

without_last : (test : Text → Bool) (paths : List Text) (path : Text) → list_any test paths ≡ false → test path ≡ true → without_first test (paths ++ path ∷ []) ≡ paths
without_last test [] path none own = ap (λ (b : Bool). cond b [] (path ∷ [])) own
without_last test (p ∷ paths) path none own = by_test (test p) none (λ h. without_last test paths path h own)
  where
    by_test : (b : Bool) → (b || list_any test paths) ≡ false → (list_any test paths ≡ false → without_first test (paths ++ path ∷ []) ≡ paths) → cond b (paths ++ path ∷ []) (p ∷ without_first test (paths ++ path ∷ [])) ≡ p ∷ paths
    by_test true h more = absurd (cc)
    by_test false h more = ap (λ (ps : List Text). p ∷ ps) (more h)

-- Steps alone are no events ------------------------------------------------------------------------------------

steps_happened : (xs ys : List Entry) → OnlySteps xs → happened (xs ++ ys) ≡ happened ys
steps_happened [] ys only = refl
steps_happened (Happens event label ∷ xs) ys only = absurd only
steps_happened (Did label ∷ xs) ys only = steps_happened xs ys only
steps_happened (Declines label ∷ xs) ys only = absurd only

steps_declined : (xs ys : List Entry) → OnlySteps xs → NoneDeclined ys → NoneDeclined (xs ++ ys)
steps_declined [] ys only none = none
steps_declined (Happens event label ∷ xs) ys only none = absurd only
steps_declined (Did label ∷ xs) ys only none = steps_declined xs ys only none
steps_declined (Declines label ∷ xs) ys only none = absurd only

-- The run ------------------------------------------------------------------------------------------------------

-- nothing is under way in it
pub is_resting : (s : State) → IsStill s → s ≡ rests s
is_resting s still =
    ap (λ o. record s { operation = o }) still.none
    ∙ ap (λ xs. record s { operation = None; activities = xs }) still.idle
    ∙ ap (λ xs. record s { operation = None; activities = []; tasks = xs }) still.done

module _ (settings : Settings) (s : State) (path : Text) (n : Node) (alone : StandsAlone settings s path n) (at : node_at n.serial s.core.nodes ≡ Some n) where
  mine : same n.path path ≡ true
  mine = find_passes (λ (x : Node). same x.path path) s.core.nodes n alone.named

  enabled : has_same n.path s.disabled ≡ false
  enabled = has_same_as n.path path s.disabled mine ∙ alone.enabled

  down : (n.serial == 0) ≡ false
  down = let up : n.serial ≢ 0 = alone.no_root in grind (arith, nat_tests)

  disable_is : happens (rests s) (Event.Disable path) ≡ did (Deed.Disabled n.path) (owes (Duty.Begins OpKind.Disable) n.serial s)
  disable_is =
      let old = rests s in
      let no = λ (reason : Reason). events.refused EventWord.Disable reason old in
      let done = did (Deed.Disabled n.path) (owes (Duty.Begins OpKind.Disable) n.serial s) in
      ap (λ (o : Option Node). events.unless o (no Reason.NoDevice) (λ (node : Node).
      if node.serial == 0 then no Reason.RootStays
      else if has_same path s.disabled then no Reason.AlreadyDisabled
      else did (Deed.Disabled node.path) (append_task (Duty.Begins OpKind.Disable) node.serial old))) alone.named
      ∙ ap (λ (b : Bool). if b then no Reason.RootStays else if has_same path s.disabled then no Reason.AlreadyDisabled else done) down
      ∙ ap (λ (b : Bool). if b then no Reason.AlreadyDisabled else done) alone.enabled

  enable_is : (m : Node) (rels : List Relation) → m.serial ≡ n.serial → m.path ≡ n.path → happens (record (stood m rels s) { disabled = s.disabled ++ n.path ∷ [] }) (Event.Enable path) ≡ did (Deed.Enabled n.path) (owes Duty.Starting m.serial (stood m rels s))
  enable_is m rels e f =
      let old = record (stood m rels s) { disabled = s.disabled ++ n.path ∷ [] } in
      let own = same_back n.path path mine in
      ap (λ (o : Option Text). events.unless o (events.refused EventWord.Enable Reason.NotDisabled old) (λ (own : Text).
      did (Deed.Enabled own) (events.start_node (node_of path old.core.nodes) (enable_path path old)))) (found_last (same path) s.disabled n.path alone.enabled own)
      ∙ ap (λ (o : Option Node). did (Deed.Enabled n.path) (events.start_node o (enable_path path old)))
      (find_put (λ (x : Node). same x.path path) m n s.core.nodes (ap (λ (i : ℕ). node_at i s.core.nodes) e ∙ at) (ap (λ (x : Text). same x path) f) alone.named)
      ∙ ap (λ (paths : List Text). did (Deed.Enabled n.path) (record (owes Duty.Starting m.serial (stood m rels s)) { disabled = paths })) (without_last (same path) s.disabled n.path alone.enabled own)

-- what it is to have its first fit
anew_is : (s : State) (n : Node) (holds : List Res) → IsStill s → n.state ≡ Started → node_at n.serial s.core.nodes ≡ Some n
    → stood (with_all n n.stack Started holds) (forget n.serial s.core.relations) s ≡ with_anew n holds s
anew_is s n holds still up at =
    let c = s.core in
    let rels = forget n.serial c.relations in
    let f = λ (m : Node). let x : Node = record m { problem = None; holds = holds } in x in
    let core = λ (ns : List Node). let x : Core = record c { nodes = ns; relations = rels } in x in
    let so : put (with_all n n.stack Started holds) rels c ≡ put (f n) rels c = ap (λ (x : DevState). put (with_all n n.stack x holds) rels c) (sym up) in
    let changed : put (f n) rels c ≡ core (changed_first (is_node n.serial) f c.nodes) =
    sym (put_changed n f rels c refl) ∙ ap (λ (ns : List Node). core (changed_first (is_node n.serial) f ns)) (ap (λ (x : Core). x.nodes) (put_self n c at)) in
    ap (λ (x : Core). let z : State = record (rests s) { core = x } in z) (so ∙ changed)
    ∙ ap (λ (z : State). let y : State = record z { core = core (changed_first (is_node n.serial) f c.nodes) } in y) (sym (is_resting s still))

module _ (settings : Settings) (rack : List Driver) (earlier : List Entry) (s : State) (path : Text) (n : Node) (run : Reaches settings rack earlier s) (still : IsStill s) (alone : StandsAlone settings s path n) where
  abbrev pub k : ℕ
  k = n.serial

  pub good : Kept s
  good = reaches_kept settings rack earlier s run

  pub order : Ascending 0 s.core.nodes
  order = good.good.serials

  pub at : node_at k s.core.nodes ≡ Some n
  at = (node_found (λ (x : Node). same x.path path) 0 s.core.nodes n order alone.named).1

  pub below : n.parent ≢ k
  below e = let low = ((keyed settings rack earlier s run).parents k n at alone.no_root).2 in omega arith

  pub some_drivers : (d : ℕ) × (ds : List ℕ) × (n.stack ≡ d ∷ ds)
  some_drivers = by_stack n.stack refl
    where
      by_stack : (xs : List ℕ) → n.stack ≡ xs → (d : ℕ) × (ds : List ℕ) × (n.stack ≡ d ∷ ds)
      by_stack [] e = absurd (let none : n.state ≡ NoStack = ((stacks_fit settings rack earlier s run).empty k n at alone.no_root).0 e in let z = sym alone.up ∙ none in cc)
      by_stack (d ∷ ds) e = (d, ds, e)

  pub found : (plan : List (List Res)) × IsAnswer (own_problem s.core n).fixed (own_problem s.core n).movers settings.budget (assignment plan)
  found =
      finds_some s.core n order (nothing_clashes settings rack earlier s run) at ((all_hold_whole settings rack earlier s run).up k n at (ap is_up_to_now alone.up)) settings.budget alone.in_budget

  pub chosen : IsChosen settings s.core.rack n n.stack
  chosen = is_chosen settings rack s n (earlier, run) still.idle alone.no_root at (λ e. (let z = sym e ∙ some_drivers.2 in cc))

  abbrev pub holds : List Res
  holds = own_part found.0

  abbrev pub apart : List Relation
  apart = forget k s.core.relations

  abbrev pub out : State
  out = record (stood (disabled n) apart s) { disabled = s.disabled ++ n.path ∷ [] }

  abbrev pub end : State
  end = stood (with_all n n.stack Started holds) apart s

  pub goes_out : Leads settings (owes (Duty.Begins OpKind.Disable) k s) out
  goes_out =
      disables settings s n some_drivers.0 some_drivers.1 some_drivers.2 at alone.up below (enabled settings s path n alone at)
      (leaves_alone s.core n order alone.nobody good.stands.tree.rank good.stands.tree.ranked good.stands.tree.free at alone.no_root) alone.shut alone.agree

  pub comes_back : Leads settings (owes Duty.Starting k (stood (disabled n) apart s)) end
  comes_back =
      starts_again settings s n some_drivers.0 some_drivers.1 some_drivers.2 at below apart (enabled settings s path n alone at) (childless s.core n order alone.nobody) alone.none_joins alone.agree chosen found.0 found.1

  abbrev pub second : List Entry
  second = Happens (Event.Enable path) (Label.Did (Deed.Enabled n.path)) ∷ comes_back.entries

  abbrev pub cycle : List Entry
  cycle = Happens (Event.Disable path) (Label.Did (Deed.Disabled n.path)) ∷ (goes_out.entries ++ second)

  pub cycled : Run settings s cycle end
  cycled =
      subst (λ (x : State). Run settings x cycle end) (sym (is_resting s still)) (
        owes (Duty.Begins OpKind.Disable) k s,
        (refl, disable_is settings s path n alone at),
        run_on settings (owes (Duty.Begins OpKind.Disable) k s) out end goes_out.entries second goes_out.run
            (owes Duty.Starting k (stood (disabled n) apart s), (refl, enable_is settings s path n alone at (disabled n) apart refl refl), comes_back.run),
      )

  pub cycle_happened : happened cycle ≡ Event.Disable path ∷ Event.Enable path ∷ []
  cycle_happened =
      ap (λ (xs : List Event). Event.Disable path ∷ xs)
      (steps_happened goes_out.entries second goes_out.steps ∙ ap (λ (xs : List Event). Event.Enable path ∷ xs) (ap happened (sym (nil_end comes_back.entries)) ∙ steps_happened comes_back.entries [] comes_back.steps))

  pub cycle_declined : NoneDeclined cycle
  cycle_declined = steps_declined goes_out.entries second goes_out.steps (subst NoneDeclined (nil_end comes_back.entries) (steps_declined comes_back.entries [] comes_back.steps tt))

pub disabled_and_enabled : DisabledAndEnabledLaw
disabled_and_enabled settings rack earlier entries s t path n run still alone goes none quiet events_are =
    let plan = found settings rack earlier s path n run still alone in
    let here = at settings rack earlier s path n run still alone in
    let one = one_run settings s (cycle settings rack earlier s path n run still alone) entries (end settings rack earlier s path n run still alone) t (cycled settings rack earlier s path n run still alone) goes
    (cycle_declined settings rack earlier s path n run still alone) none refl quiet (events_are ∙ sym (cycle_happened settings rack earlier s path n run still alone)) in
    (own_part plan.0, (plan.0, plan.1, refl), one.1 ∙ anew_is s n (own_part plan.0) still alone.up here)
