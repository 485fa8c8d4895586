-- What a manager keeps, and what holds of each of its steps and events: the laws of runs.
use Rattle.std.proofs.Common.{◌≡◌, Option, Some, None, IsSomeAnd, true, Result, Ok, Err, IfOk, OnErr, ℕ, ◌+◌, ◌<◌, ◌≤◌, ◌^◌, List, [], ◌∷◌, ◌++◌, refl, sym, ◌∙◌, ap, subst, arith}
use Rattle.std.specs.declared.alloc.AllocError.{AllocError}
use Rattle.pnp_labels.specs.Texts.{Text}
use Rattle.pnp_labels.specs.declared.event.Event.{Event}
use Rattle.pnp_labels.specs.declared.label.Label.{Label}
use Rattle.pnp_labels.specs.declared.states.Problem.TheVariants.{NormalConflict}
use Rattle.pnp_model.specs.Events.{happens}
use Rattle.pnp_model.specs.Cores.{node_at, path_of}
use Rattle.pnp_model.specs.Machine.{IsDeclined, IsQuiet, due, is_in_order}
use Rattle.pnp_model.specs.Records.{Beginning, Driver, Settings, State, Step}
use Rattle.pnp_model.specs.Runs.{Entry, Goes, Run, opening, printed}
use Rattle.pnp_model.specs.Diagram.{FollowsDiagram, Walked}
use Rattle.pnp_model.specs.Laws.{DependentsFirst}
use Rattle.pnp_model.specs.States.{drop_task}
use Rattle.pnp_model.specs.Runs.Entry.{Happens, Did, Declines}
use Rattle.pnp_laws.specs.Ends.{events}
use Rattle.pnp_laws.specs.Kept.{IsGood}
use Rattle.pnp_laws.specs.Listed.{IsHopelessBy}
use Rattle.pnp_laws.specs.Needs.{IsEntryWithin, IsEventWithin}
use Rattle.pnp_laws.specs.Printed.{TreeIsPrinted}
use Rattle.pnp_laws.specs.Stacks.{NamesDriver}
use Rattle.pnp_laws.specs.Told.{StatesTold}
use Rattle.free_model.specs.Frees.{with_rack}
use Rattle.free_model.specs.Runs.{without_teaching}
use Rattle.free_model.specs.Shapes.{faces}
use Rattle.free_model.proofs.Answered.{Sort, other, sort, teaches}
use Rattle.pnp_laws.proofs.NodesPlugged.{needs_are_within}
use Rattle.pnp_laws.proofs.Reached.{reached_is_good}
use Rattle.pnp_laws.proofs.RunsBegun.{operations_begin}
use Rattle.pnp_laws.proofs.RunsConflict.{each_conflict_is_listed, each_conflict_is_real}
use Rattle.pnp_laws.proofs.RunsEnds.{each_end_restores}
use Rattle.pnp_laws.proofs.RunsFacts.{facts_are_kept}
use Rattle.pnp_laws.proofs.RunsHeld.{each_holds_a_part, few_held}
use Rattle.pnp_laws.proofs.RunsKeys.{no_cycle, nothing_printed_clashes}
use Rattle.pnp_laws.proofs.RunsSerials.{few_serials, few_births}
use Rattle.pnp_laws.proofs.RunsShare.{nothing_clashes}
use Rattle.pnp_laws.proofs.RunsStacks.{keyed, names_are_known, stacks_fit}
use Rattle.pnp_laws.proofs.RunsStand.{dependents_go_first, every_run_follows}
use Rattle.pnp_laws.proofs.RunsStrays.{nobody_is_forgotten}
use Rattle.pnp_laws.proofs.RunsTold.{states_are_told}
use Rattle.pnp_laws.proofs.RunsWhole.{all_hold_whole}
use Rattle.pnp_laws.proofs.RunsWindows.{held_inside_windows}
use Rattle.pnp_laws.proofs.OpenHandles.{open_handles_fit}
use Rattle.pnp_laws.proofs.DependentsTold.{dependents_are_told}
use Rattle.pnp_laws.proofs.RunsReady.{ready_ones_are_due}
use Rattle.pnp_laws.proofs.TreePrints.{each_node_is_printed_once}
use Rattle.pnp_machine.specs.Machines.{IsDone, Moves}
use Rattle.pnp_machine.specs.Ids.{AreFewIds}
use Rattle.pnp_machine.specs.Machines.{HasFewIds}
use Rattle.pnp_machine.specs.Managers.{IsRunOf, IsOfRun, KeepsFacts, KeepsLaws, LawsOf}
use Rattle.pnp_machine.specs.declared.manager.Moved.{Moved}
use Rattle.pnp_machine.specs.declared.manager.Moved.TheVariants.{Label as Printed, Quiet}
use Rattle.pnp_machine.proofs.ButBooks.{ShadowStep, all_left, fewer, one_rack, shadow, shadow_step, swaps_end, swaps_on}
use Rattle.pnp_machine.proofs.Ids.{few_goes, one_more_has}
use Rattle.pnp_machine.proofs.SameLaws.{IsTakenOr, acyclic_same, facts_same, first_same, handles_same, hopeless_same, keyed_same, names_same, nobody_same, stacks_same, still_first, still_follows, still_names, still_told, still_walked, teaching_says, told_same, walk_same}

events_more : (xs : List Entry) (event : Event) (label : Label) → events (xs ++ Happens event label ∷ []) ≡ events xs + 1
events_more [] event label = refl
events_more (Happens e l ∷ xs) event label = let more = events_more xs event label in omega arith
events_more (Did l ∷ xs) event label = events_more xs event label
events_more (Declines l ∷ xs) event label = events_more xs event label

events_same : (xs : List Entry) (label : Label) → events (xs ++ Did label ∷ []) ≡ events xs
events_same [] label = refl
events_same (Happens e l ∷ xs) label = ap (λ n. 1 + n) (events_same xs label)
events_same (Did l ∷ xs) label = events_same xs label
events_same (Declines l ∷ xs) label = events_same xs label

events_declined : (xs : List Entry) (label : Label) → events (xs ++ Declines label ∷ []) ≡ events xs
events_declined [] label = refl
events_declined (Happens e l ∷ xs) label = ap (λ n. 1 + n) (events_declined xs label)
events_declined (Did l ∷ xs) label = events_declined xs label
events_declined (Declines l ∷ xs) label = events_declined xs label

events_on : (xs : List Entry) (entry : Entry) → events (xs ++ entry ∷ []) ≡ events xs + events (entry ∷ [])
events_on xs (Happens event label) = events_more xs event label
events_on xs (Did label) = let same = events_same xs label in omega arith
events_on xs (Declines label) = let same = events_declined xs label in omega arith

-- what each step changes of nodes, and what it prints
record StepLaws (label : Label) (s t : State) : Type 0 where
  diagram : FollowsDiagram label s.core.nodes t.core.nodes
  walked : Walked label s.core.nodes t.core.nodes
  states : StatesTold label s t
  first : DependentsFirst label s.core t.core
  names : NamesDriver label t.core.rack
  listed : (path : Text) → label ≡ Label.Trouble path NormalConflict → IsHopelessBy s path

module _ (told : Settings) (entries : List Entry) (s : State) (entry : Entry) (t : State) (h : ShadowStep told entries s entry t) where
  -- of a step that the machine itself makes
  made : Run told (with_rack h.here s) (entry ∷ []) (with_rack h.there t) → StepLaws (printed entry) s t
  made (mid, begins, is) =
      let old : State = with_rack h.here s in
      let new : State = with_rack h.there t in
      let earlier = without_teaching entries in
      let goes : Goes told old entry new = subst (λ (x : State). Goes told old entry x) (sym is) begins in
      let follows = every_run_follows told h.rack earlier old entry new h.reaches goes in
      let told_so = states_are_told told h.rack earlier old entry new h.reaches goes in
      record {
        diagram = follows.0;
        walked = follows.1;
        states = record { alone = told_so.alone; walked = λ path state is k n at named. let (w, walks, ended, row) = told_so.walked path state is k n at named in (w, walk_same s h.here k w walks, ended, row) };
        first = first_same (printed entry) s.core t.core h.here h.there (dependents_go_first told h.rack earlier old entry new h.reaches goes);
        names = names_same h.there t.core.rack h.there_shown (printed entry) (names_are_known told h.rack earlier old entry new h.reaches goes);
        listed = λ path is. hopeless_same s h.here path (each_conflict_is_listed told h.rack earlier old entry new path h.reaches goes is);
      }

happened_laws : (told : Settings) (entries : List Entry) (s : State) (event : Event) (label : Label) (t : State) (h : ShadowStep told entries s (Happens event label) t) → happens s event ≡ record { label = label; state = t }
    → Sort label [] event → StepLaws label s t
happened_laws told entries s event label t h so (other _ own is) =
    made told entries s (Happens event label) t h (subst (λ (es : List Entry). Run told (with_rack h.here s) es (with_rack h.there t)) is h.goes)
happened_laws told entries s _ label t h so (teaches name rule) =
    let says : IsTakenOr label = subst (λ (x : Step). IsTakenOr x.label) so (teaching_says s name rule) in
    let same : t.core.nodes ≡ s.core.nodes = ap (λ (x : State). x.core.nodes) h.goes in
    record {
      diagram = still_follows label says s t same;
      walked = still_walked label says s t same;
      states = still_told label says s t same;
      first = still_first label says s t same;
      names = still_names label says s t same;
      listed = λ path is. absurd (subst IsTakenOr is says);
    }

step_laws : (told : Settings) (entries : List Entry) (s : State) (entry : Entry) (t : State) → ShadowStep told entries s entry t → Goes told s entry t → StepLaws (printed entry) s t
step_laws told entries s (Happens event label) t h (quiet, so) = happened_laws told entries s event label t h so (sort label [] event)
step_laws told entries s (Did label) t h goes = made told entries s (Did label) t h h.goes
step_laws told entries s (Declines label) t h goes = made told entries s (Declines label) t h h.goes

module _ (told : Settings) (s t : State) where
  laws_of : (n : ℕ) → IsRunOf told n s → (entry : Entry) → n + events (entry ∷ []) ≤ 2 ^ 24 → IsEntryWithin 16 entry → Goes told s entry t → KeepsLaws told (printed entry) s t
  laws_of n h entry most own goes =
      let steps = step_laws told h.entries s entry t (shadow_step told h.rack h.entries s entry t h.reaches goes) goes in
      let all : List Entry = h.entries ++ entry ∷ [] in
      let after = shadow told h.rack all t (swaps_on told (opening h.rack) s t h.entries entry h.reaches goes) in
      let left = without_teaching all in
      let new : State = with_rack after.here t in
      record {
        diagram = steps.diagram;
        walked = steps.walked;
        clear = nothing_clashes told after.rack left new after.reaches;
        whole = all_hold_whole told after.rack left new after.reaches;
        parts = each_holds_a_part told after.rack left new after.reaches;
        few =
            let within = needs_are_within told after.rack left new after.reaches 16 (all_left (IsEntryWithin 16) all (one_more_has (IsEntryWithin 16) entry own h.entries h.within)) in
            let held = few_held told after.rack left new after.reaches 16 within in
            let on = events_on h.entries entry in
            let less = fewer all in
            let count : events h.entries ≡ n = h.count in
            omega arith;
        inside = held_inside_windows told after.rack left new after.reaches;
        handles = handles_same t after.here (open_handles_fit told after.rack left new after.reaches);
        together = λ neither. told_same t.core after.here (dependents_are_told told after.rack left new after.reaches neither);
        ready = ready_ones_are_due told after.rack left new after.reaches;
        states = steps.states;
        first = steps.first;
        keyed = keyed_same t after.here (keyed told after.rack left new after.reaches);
        acyclic = acyclic_same t.core after.here (no_cycle told after.rack left new after.reaches);
        apart = nothing_printed_clashes told after.rack left new after.reaches;
        stacks = stacks_same t after.here after.shown (stacks_fit told after.rack left new after.reaches);
        names = steps.names;
        remembered = λ idle. nobody_same t after.here (nobody_is_forgotten told after.rack left new after.reaches idle);
        listed = steps.listed;
        begun = λ rack entries reaches. operations_begin told rack entries s entry t reaches goes;
        restores = λ rack entries reaches. each_end_restores told rack entries s entry t reaches goes;
        conflicts = λ rack entries path reaches is. each_conflict_is_real told rack entries s entry t path reaches goes is;
      }

  pub event_goes : (event : Event) (label : Label) → IsQuiet told s → IsDone (happens s event) label t → Goes told s (Happens event label) t
  event_goes event label quiet (l, e) = (quiet, same)
    where
      same : happens s event ≡ record { label = label; state = t }
      same = ap (λ x. step x (happens s event).state) (sym l) ∙ ap (step label) (sym e)
        where
          step : Label → State → Step
          step x y = record { label = x; state = y }

  pub run_applied : (n : ℕ) (event : Event) (label : Label) → IsRunOf told n s → IsEventWithin 16 event → IsQuiet told s → IsDone (happens s event) label t → IsRunOf told (n + 1) t
  run_applied n event label h own quiet is =
      record {
        rack = h.rack;
        entries = h.entries ++ Happens event label ∷ [];
        reaches = swaps_on told (opening h.rack) s t h.entries (Happens event label) h.reaches (event_goes event label quiet is);
        count = events_more h.entries event label ∙ ap (λ k. k + 1) h.count;
        within = one_more_has (IsEntryWithin 16) (Happens event label) own h.entries h.within;
      }

  pub laws_applied : (n : ℕ) (event : Event) (label : Label) → IsRunOf told n s → n < 2 ^ 24 → IsEventWithin 16 event → IsQuiet told s → IsDone (happens s event) label t → KeepsLaws told label s t
  laws_applied n event label h most own quiet is = laws_of n h (Happens event label) (omega arith) own (event_goes event label quiet is)

  pub run_stepped : (n : ℕ) (moved : Moved) → IsRunOf told n s → Moves told s moved t → IsRunOf told n t
  run_stepped n (Printed label) h steps =
      record {
        rack = h.rack;
        entries = h.entries ++ Did label ∷ [];
        reaches = swaps_on told (opening h.rack) s t h.entries (Did label) h.reaches steps;
        count = events_same h.entries label ∙ h.count;
        within = one_more_has (IsEntryWithin 16) (Did label) tt h.entries h.within;
      }
  run_stepped n Quiet h (quiet, same) = subst (IsRunOf told n) (sym same) h

  pub laws_stepped : (n : ℕ) (moved : Moved) → IsRunOf told n s → n ≤ 2 ^ 24 → Moves told s moved t → LawsOf told moved s t
  laws_stepped n (Printed label) h most steps = laws_of n h (Did label) (omega arith) tt steps
  laws_stepped n Quiet h most steps = tt

pub of_run_good : (s : State) → IsOfRun s → IsGood s
of_run_good s run =
    let own = one_rack s run in
    reached_is_good own.told own.rack (with_rack own.here s) (own.entries, own.reaches)

-- what each state keeps
pub facts_of : (told : Settings) (n : ℕ) (s : State) → IsRunOf told n s → AreFewIds s → KeepsFacts s
facts_of told n s run few =
    let h = shadow told run.rack run.entries s run.reaches in
    let left = without_teaching run.entries in
    let one : State = with_rack h.here s in
    record {
      keyed = keyed_same s h.here (keyed told h.rack left one h.reaches);
      acyclic = acyclic_same s.core h.here (no_cycle told h.rack left one h.reaches);
      stacks = stacks_same s h.here h.shown (stacks_fit told h.rack left one h.reaches);
      facts = facts_same s h.here (facts_are_kept told h.rack left one h.reaches);
      ids = few;
    }

pub of_run_printed : (told : Settings) (n : ℕ) (s : State) → IsRunOf told n s → TreeIsPrinted s.core.nodes
of_run_printed told n s run =
    let h = shadow told run.rack run.entries s run.reaches in
    each_node_is_printed_once told h.rack (without_teaching run.entries) (with_rack h.here s) h.reaches

pub run_serials : (told : Settings) (n : ℕ) (s : State) → IsRunOf told n s → n ≤ 2 ^ 24 → s.next_serial < 2 ^ 63
run_serials told n s run few =
    let h = shadow told run.rack run.entries s run.reaches in
    let most = few_serials told h.rack (without_teaching run.entries) (with_rack h.here s) h.reaches in
    let less = fewer run.entries in
    let count : events run.entries ≡ n = run.count in
    omega arith

pub run_births : (told : Settings) (n : ℕ) (s : State) → IsRunOf told n s → n ≤ 2 ^ 24 → s.next_born < 2 ^ 63
run_births told n s run few =
    let h = shadow told run.rack run.entries s run.reaches in
    let most = few_births told h.rack (without_teaching run.entries) (with_rack h.here s) h.reaches in
    let less = fewer run.entries in
    let count : events run.entries ≡ n = run.count in
    omega arith

-- other drivers of the same kinds and names
pub run_swapped : (told : Settings) (n : ℕ) (s : State) (rack : List Driver) → IsRunOf told n s → faces rack ≡ faces s.core.rack → IsRunOf told n (with_rack rack s)
run_swapped told n s rack h shown =
    record { rack = h.rack; entries = h.entries; reaches = swaps_end told (opening h.rack) h.entries s rack h.reaches shown; count = h.count; within = h.within }

-- a client declines what is due
module _ (told : Settings) (s t : State) where
  declined : (due_one : Option Beginning) → due s ≡ due_one → IsSomeAnd due_one (λ first. is_in_order first.kind ≡ true) → t ≡ drop_task s → (label : Label) × IsDeclined s label t
  declined None is order same = absurd order
  declined (Some first) is order same =
      let label = Label.Declined first.kind (path_of (node_at first.serial s.core.nodes)) [] in (
        label,
        record { first = first; client = []; is_due = is; in_order = order; says = refl; dropped = same },
      )

  pub run_declined : (n : ℕ) → IsRunOf told n s → IsSomeAnd (due s) (λ first. is_in_order first.kind ≡ true) → t ≡ drop_task s → IsRunOf told n t
  run_declined n h order same =
      let told_so = declined (due s) refl order same in
      record {
        rack = h.rack;
        entries = h.entries ++ Declines told_so.0 ∷ [];
        reaches = swaps_on told (opening h.rack) s t h.entries (Declines told_so.0) h.reaches told_so.1;
        count = events_declined h.entries told_so.0 ∙ h.count;
        within = one_more_has (IsEntryWithin 16) (Declines told_so.0) tt h.entries h.within;
      }

-- the same of a step that may be refused for want of memory
module _ (told : Settings) (n : ℕ) (s t : State) (h : IsRunOf told n s) where
  pub run_after : (r : Result Moved AllocError) → IfOk r (λ moved. Moves told s moved t) → OnErr r (t ≡ s) → IsRunOf told n t
  run_after (Ok moved) moves same = run_stepped told s t n moved h moves
  run_after (Err refused) moves same = subst (IsRunOf told n) (sym same) h

  pub laws_after : n ≤ 2 ^ 24 → (r : Result Moved AllocError) → IfOk r (λ moved. Moves told s moved t) → IfOk r (λ moved. LawsOf told moved s t)
  laws_after most (Ok moved) moves = laws_stepped told s t n moved h most moves
  laws_after most (Err refused) moves = tt

-- IDs stay few
module _ (told : Settings) (s t : State) (few : AreFewIds s) where
  pub few_applied : (event : Event) (label : Label) → HasFewIds event → IsQuiet told s → IsDone (happens s event) label t → AreFewIds t
  few_applied event label own quiet is = few_goes told s (Happens event label) t (event_goes told s t event label quiet is) own few

  few_stepped : (moved : Moved) → Moves told s moved t → AreFewIds t
  few_stepped (Printed label) steps = few_goes told s (Did label) t steps tt few
  few_stepped Quiet (quiet, same) = subst (λ (x : State). AreFewIds x) (sym same) few

  pub few_after : (r : Result Moved AllocError) → IfOk r (λ moved. Moves told s moved t) → OnErr r (t ≡ s) → AreFewIds t
  few_after (Ok moved) moves same = few_stepped moved moves
  few_after (Err refused) moves same = subst (λ (x : State). AreFewIds x) (sym same) few
