-- A device on which nothing depends, and whose drivers agree, is disabled: step by step.
use Rattle.std.proofs.Common.{ℕ, suc, ◌+◌, ◌≤◌, ◌≡◌, ◌≢◌, ◌==◌, Bool, true, false, List, [], ◌∷◌, ◌++◌, length, Option, Some, None, refl, sym, ap, ◌∙◌, subst, arith, cond, if◌then◌else◌}
use Rattle.std.specs.List.{AllByRecursion}
use Rattle.std.specs.Option.{option_map}
use Rattle.std.specs.Prelude.{map}
use Rattle.std.proofs.lemmas.Bool.Decides.{nat_tests}
use Rattle.pnp_labels.specs.declared.label.Label.{Label}
use Rattle.pnp_labels.specs.declared.label.OpKind.{OpKind}
use Rattle.pnp_labels.specs.declared.states.DevState.TheVariants.{RemovePending, Started}
use Rattle.pnp_labels.specs.declared.states.Problem.{Problem}
use Rattle.pnp_labels.specs.declared.words.Minor.{Minor}
use Rattle.pnp_model.specs.Cores.{bare, forget, node_at, set_problem, set_state, stack_of, strip, with_problem, with_state}
use Rattle.pnp_model.specs.Frames.{Ask, asked, first_node}
use Rattle.pnp_model.specs.Handles.{is_open}
use Rattle.pnp_model.specs.Jobs as jobs
use Rattle.pnp_model.specs.Keyed.{those}
use Rattle.pnp_model.specs.Machine as ma
use Rattle.pnp_model.specs.Records.{Core, Doing, Duty, Job, Node, Relation, Settings, Stage, State, doing_map}
use Rattle.pnp_model.specs.Records.Doing.{Does}
use Rattle.pnp_model.specs.Removals as rm
use Rattle.pnp_model.specs.Tasks as tk
use Rattle.pnp_model.specs.Tests.{has, has_same, is_surprise_removed}
use Rattle.pnp_model.specs.Trees.{leaving}
use Rattle.pnp_laws.proofs.Truths.{neither}
use Rattle.pnp_pairs.specs.DisabledAndEnabled.{HasNoRule}
use Rattle.pnp_pairs.proofs.Agreeing.{agreed, asked_agrees, next_agrees}
use Rattle.pnp_pairs.proofs.Leading.{Leads, leads_on, stays, steps_on}
use Rattle.pnp_pairs.proofs.Placing.{at_put, put, put_changed, put_self}
use Rattle.pnp_pairs.proofs.Walking.{asks_all, ends_well, goes_on, walk_at}

-- the state with nothing under way
abbrev pub rests : State → State
rests s = record s { operation = None; activities = []; tasks = [] }

-- and with one task
abbrev pub owes : Duty → ℕ → State → State
owes kind k s = record (rests s) { tasks = record { kind = kind; serial = k } ∷ [] }

-- and with an operation
abbrev pub runs : Job → State → State
runs j s = record (rests s) { operation = Some j }

-- and with the device as it stands here, in these relations
abbrev pub stood : Node → List Relation → State → State
stood m relations s = record (rests s) { core = put m relations s.core }

-- the device that is taken out
abbrev pub going : Node → Node
going n = with_state RemovePending n

abbrev pub gone : Node → Node
gone n = bare (going n)

abbrev pub disabled : Node → Node
disabled n = with_problem (Some Problem.Disabled) (gone n)

module _ (settings : Settings) (s : State) (n : Node) (d : ℕ) (ds : List ℕ) (stack : n.stack ≡ d ∷ ds) (at : node_at n.serial s.core.nodes ≡ Some n) (up : n.state ≡ Started) (below : n.parent ≢ n.serial)
    (enabled : has_same n.path s.disabled ≡ false) (leaves : leaving s.core n.serial ≡ n.serial ∷ []) (shut : is_open s.handles n.serial ≡ false) (steady : AllByRecursion (HasNoRule s.core.rack n.path) n.stack) where
  abbrev k : ℕ
  k = n.serial

  -- the operation, for the device alone
  abbrev alone : Job
  alone = record (jobs.job_of OpKind.Disable n) { set = k ∷ []; ejecting = map (λ r. r.member) (those (rm.is_ejecting (k ∷ [])) s.core.relations) }

  abbrev begun : Job
  begun = jobs.stands alone (k ∷ []) Stage.Next

  is_begun : rm.begun_removal s.core OpKind.Disable n ≡ begun
  is_begun =
      let queried : rm.is_queried_node (node_at k s.core.nodes) ≡ true = ap rm.is_queried_node at ∙ ap rm.is_queried up in
      ap (rm.begun_with s.core OpKind.Disable n) leaves ∙ ap (λ (b : Bool). rm.ask_on s.core.nodes alone (cond b (k ∷ []) [])) queried

  begins_next : ma.next settings (owes (Duty.Begins OpKind.Disable) k s) ≡ Some (Does (tk.begin (owes (Duty.Begins OpKind.Disable) k s) OpKind.Disable n begun))
  begins_next =
      let before = owes (Duty.Begins OpKind.Disable) k s in
      ap (λ (o : Option Node). Some (Does (tk.begin_step before OpKind.Disable k o))) at
      ∙ ap (λ (b : Bool). Some (Does (tk.disable_task before n b))) enabled
      ∙ ap (λ (j : Job). Some (Does (tk.begin before OpKind.Disable n j))) is_begun

  -- it is asked

  abbrev asking_it : Job
  asking_it = rm.queried begun

  first : first_node s.core.nodes (k ∷ []) ≡ Some n
  first = at

  first_ask : ma.next settings (runs begun s) ≡ Some (Does (ma.job_lifted (runs begun s) (jobs.asks asking_it (agreed s.core n (walk_at Minor.QueryRemove 0)))))
  first_ask =
      let now = runs begun s in
      let w = walk_at Minor.QueryRemove 0 in
      let agrees : rm.refuses_unasked s.handles n ≡ false = neither (is_open s.handles k) (is_surprise_removed n.state) shut (ap is_surprise_removed up) in
      ap (λ (o : Option Node). option_map (doing_map (ma.job_lifted now)) (option_map (λ (m : jobs.JobMove). Doing.Does m) (rm.acts s.core begun s.handles Stage.Next o))) at
      ∙ ap (λ (b : Bool). option_map (doing_map (ma.job_lifted now)) (option_map (λ (m : jobs.JobMove). Doing.Does m) (rm.query s.core begun n b))) agrees
      ∙ ap (λ (b : Bool). option_map (doing_map (ma.job_lifted now)) (option_map (λ (m : jobs.JobMove). Doing.Does m)
      (if b then option_map (jobs.ends s.core n w) (Some (rm.answers s.core asking_it n false)) else Some (jobs.asks asking_it (asked s.core n w))))) (goes_on Minor.QueryRemove 0 (length n.stack) some)
      ∙ ap (λ (x : Ask). Some (Does (ma.job_lifted now (jobs.asks asking_it x)))) (asked_agrees s.core n w (next_agrees s.core.rack n w steady some))
    where
      some : 0 + 1 ≤ length n.stack
      some = let e : length n.stack ≡ suc (length ds) = ap length stack in omega arith

  -- it agrees, and is to be removed

  abbrev agreed_job : Job
  agreed_job = record asking_it { walk = Some (walk_at Minor.QueryRemove (length n.stack)); agreed = k ∷ [] }

  abbrev removing : Job
  removing = jobs.begins agreed_job (k ∷ []) Stage.Removing Minor.Remove

  then_removed : rm.ask_on s.core.nodes agreed_job [] ≡ removing
  then_removed = ap (λ (o : Option Node). rm.finish_with agreed_job (k ∷ []) (stack_of o)) at ∙ ap (rm.finish_with agreed_job (k ∷ [])) stack

  is_going : set_state k RemovePending s.core ≡ put (going n) s.core.relations s.core
  is_going = ap (set_state k RemovePending) (sym (put_self n s.core at)) ∙ put_changed n (with_state RemovePending) s.core.relations s.core refl

  asked_out : Leads settings (runs begun s) (runs removing (stood (going n) s.core.relations s))
  asked_out =
      steps_on settings (runs begun s) _ (ma.job_lifted (runs begun s) (jobs.asks asking_it (agreed s.core n (walk_at Minor.QueryRemove 0)))) first_ask
      (leads_on settings _ _ _ (asks_all settings (rests s) Minor.QueryRemove n steady asking_it first (length ds) 1 (let e : length n.stack ≡ suc (length ds) = ap length stack in omega arith))
      (steps_on settings _ _ _ (ends_well settings (rests s) Minor.QueryRemove n steady asking_it first (Some removing) (ap Some then_removed))
      (subst (λ (c : Core). Leads settings (record (rests s) { core = c; operation = Some removing }) (runs removing (stood (going n) s.core.relations s))) (sym is_going) (stays settings _))))

  -- its drivers are removed

  abbrev settling : Job
  settling = jobs.stands (record removing { walk = Some (walk_at Minor.Remove (length n.stack)) }) (k ∷ []) Stage.Settling

  abbrev apart : List Relation
  apart = forget k s.core.relations

  is_gone : strip k (put (going n) s.core.relations s.core) ≡ put (gone n) apart s.core
  is_gone = ap (λ (c : Core). record c { relations = apart }) (put_changed (going n) bare s.core.relations s.core refl)

  going_at : node_at k (put (going n) s.core.relations s.core).nodes ≡ Some (going n)
  going_at = at_put (going n) n s.core.nodes at

  taken_out : Leads settings (runs removing (stood (going n) s.core.relations s)) (runs settling (stood (gone n) apart s))
  taken_out =
      let base = stood (going n) s.core.relations s in
      leads_on settings _ _ _ (asks_all settings base Minor.Remove (going n) steady removing going_at (length n.stack) 0 (omega arith))
      (steps_on settings _ _ _ (ends_well settings base Minor.Remove (going n) steady removing going_at (Some settling) refl)
      (subst (λ (c : Core). Leads settings (record (rests s) { core = c; operation = Some settling }) (runs settling (stood (gone n) apart s))) (sym is_gone) (stays settings _)))

  -- it stays, disabled

  abbrev ending : Job
  ending = jobs.stands settling [] Stage.Ending

  abbrev also_disabled : State → State
  also_disabled t = record t { disabled = s.disabled ++ n.path ∷ [] }

  gone_at : node_at k (put (gone n) apart s.core).nodes ≡ Some (gone n)
  gone_at = at_put (gone n) n s.core.nodes at

  settles : ma.next settings (runs settling (stood (gone n) apart s)) ≡ Some (Does (ma.job_lifted (runs settling (stood (gone n) apart s)) (rm.remains (put (gone n) apart s.core) settling (gone n) Problem.Disabled (jobs.Beside.Disabled n.path))))
  settles =
      let now = runs settling (stood (gone n) apart s) in
      let c = put (gone n) apart s.core in
      let stays_over : has (k ∷ []) n.parent ≡ false = grind (arith, nat_tests) in
      let own : (k == k) ≡ true = grind (arith, nat_tests) in
      ap (λ (o : Option Node). option_map (doing_map (ma.job_lifted now)) (option_map (λ (m : jobs.JobMove). Doing.Does m) (rm.acts c settling s.handles Stage.Settling o))) gone_at
      ∙ ap (λ (b : Bool). Some (Does (ma.job_lifted now
      (if b then rm.leaves c settling (gone n) (Label.Leave n.path) (jobs.Beside.Left n.path n.born) else if k == k then rm.remains c settling (gone n) Problem.Disabled (jobs.Beside.Disabled n.path)
      else rm.remains c settling (gone n) Problem.Held jobs.Beside.On)))) stays_over
      ∙ ap (λ (b : Bool). Some (Does (ma.job_lifted now
      (if b then rm.remains c settling (gone n) Problem.Disabled (jobs.Beside.Disabled n.path) else rm.remains c settling (gone n) Problem.Held jobs.Beside.On)))) own

  is_disabled : set_problem k (Some Problem.Disabled) (put (gone n) apart s.core) ≡ put (disabled n) apart s.core
  is_disabled = put_changed (gone n) (with_problem (Some Problem.Disabled)) apart s.core refl

  abbrev pub out : State
  out = also_disabled (stood (disabled n) apart s)

  settled : Leads settings (runs settling (stood (gone n) apart s)) out
  settled =
      steps_on settings _ _ _ settles
      (subst (λ (c : Core). Leads settings (record (rests s) { core = c; operation = Some ending; disabled = s.disabled ++ n.path ∷ [] }) out) (sym is_disabled)
      (steps_on settings _ _ (ma.job_lifted (runs ending out) (rm.close (put (disabled n) apart s.core) ending)) refl (stays settings out)))

  -- the steps of its disable
  pub disables : Leads settings (owes (Duty.Begins OpKind.Disable) k s) out
  disables =
      steps_on settings _ _ (tk.begin (owes (Duty.Begins OpKind.Disable) k s) OpKind.Disable n begun) begins_next
      (leads_on settings _ _ _ asked_out (leads_on settings _ _ _ taken_out settled))
