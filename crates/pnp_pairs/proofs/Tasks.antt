-- Tasks under other words: listing, the begin of a start, and the begin of an operation.
use Rattle.std.proofs.Common.{ℕ, ◌+◌, ◌≡◌, Bool, true, false, not, List, [], ◌∷◌, ◌++◌, length, map, Option, Some, None, refl, ap, ap₂, ◌∙◌}
use Rattle.std.specs.Prelude.{option_map, find, nat_le, ◌==◌, ◌&&◌}
use Rattle.std.specs.List.{list_any}
use Rattle.device_ids.specs.Folding.{same}
use Rattle.resource_reqs.specs.Resources.{Reqs}
use Rattle.pnp_labels.specs.Texts.{Text}
use Rattle.pnp_labels.specs.declared.label.Label.{Label}
use Rattle.pnp_labels.specs.declared.label.OpKind.{OpKind}
use Rattle.pnp_labels.specs.declared.states.DevState.{DevState}
use Rattle.pnp_labels.specs.declared.states.DevState.TheVariants.{NoStack, NotStarted, Started, StopPending, Stopped, RemovePending, SurpriseRemoved}
use Rattle.pnp_labels.specs.declared.states.Problem.{Problem}
use Rattle.pnp_model.specs.Books.{driver_named}
use Rattle.pnp_model.specs.Cores.{core_of, new_node, set_problem}
use Rattle.pnp_model.specs.Handles.{is_ready_device}
use Rattle.pnp_model.specs.Rebalances as rebalances
use Rattle.pnp_model.specs.Records.{Activity, Choice, Core, Device, Duty, Job, Node, Settings, State, Step}
use Rattle.pnp_model.specs.Removals as removals
use Rattle.pnp_model.specs.States.{activity_at, append_task, begin_activity, device_born, drop_task, is_in_world, let_through, requires, with_core}
use Rattle.pnp_model.specs.Surprises as surprises
use Rattle.pnp_model.specs.Tasks as tasks
use Rattle.pnp_model.specs.Tasks.{begin_step, gone_child, has_born, has_path, is_gone, is_surprise_of, joining, joins, list_step, numbered, start_step}
use Rattle.pnp_model.specs.Tests.{has_same, is_surprise_removed}
use Rattle.pnp_model.specs.Trees.{children}
use Rattle.pnp_pairs.specs.Renamed as renamed
use Rattle.pnp_pairs.specs.Renamed.{Renaming}
use Rattle.pnp_pairs.specs.Renaming.{ChooseAlike}
use Rattle.pnp_pairs.proofs.Asks.{changed_same, name_same, number_same, numbers_same}
use Rattle.pnp_pairs.proofs.Maps.{any_map, count_map, find_map}
use Rattle.pnp_pairs.proofs.Rebalances.{begun_same}
use Rattle.pnp_pairs.proofs.Removals.{removal_begun, surprise_begun}
use Rattle.pnp_pairs.proofs.Trees.{children_same, clip_same, ready_one}

module _ (r : Renaming) where
  -- the world -------------------------------------------------------------------------

  pub born_same : (born : ℕ) (world : List Device) → device_born born (map (renamed.device r) world) ≡ option_map (renamed.device r) (device_born born world)
  born_same born world = find_map (renamed.device r) (λ d. d.born == born) (λ d. d.born == born) (λ d. refl) world

  pub in_world_same : (world : List Device) (born : ℕ) → is_in_world (map (renamed.device r) world) born ≡ is_in_world world born
  in_world_same world born = any_map (renamed.device r) (λ d. d.born == born) (λ d. d.born == born) (λ d. refl) world

  pub disabled_same : (path : Text) (paths : List Text) → has_same (r.path path) (map r.path paths) ≡ has_same path paths
  disabled_same path paths = any_map r.path (same path) (same (r.path path)) (r.paths path) paths

  -- a problem of a node, and a skip -----------------------------------------------------

  problem_same : (k : ℕ) (problem : Option Problem) (c : Core) → set_problem k problem (renamed.core r c) ≡ renamed.core r (set_problem k problem c)
  problem_same k problem c = changed_same r k _ _ c (λ n. refl)

  trouble_same : (s : State) (n : Node) (problem : Problem) → tasks.begin_trouble (renamed.state r s) (renamed.node r n) problem ≡ renamed.step r (tasks.begin_trouble s n problem)
  trouble_same s n problem =
      ap (λ (c : Core). record { label = Label.Trouble (r.path n.path) problem; state = with_core c (drop_task (renamed.state r s)) }) (problem_same n.serial (Some problem) s.core)

  -- Listing -------------------------------------------------------------------------------

  joins_same : (born : ℕ) (ns : List Node) (d : Device) → joins born (renamed.nodes r ns) (renamed.device r d) ≡ joins born ns d
  joins_same born ns d =
      ap₂ (λ (a b : Bool). d.parent == born && not a && not b) (any_map (renamed.node r) (λ n. n.born == d.born) (λ n. n.born == d.born) (λ n. refl) ns)
      (any_map (renamed.node r) (λ n. same n.path d.path) (λ n. same n.path (r.path d.path)) (λ n. r.paths n.path d.path) ns)

  joining_same : (born : ℕ) (ns : List Node) (world : List Device) → joining born (renamed.nodes r ns) (map (renamed.device r) world) ≡ option_map (renamed.device r) (joining born ns world)
  joining_same born ns world = find_map (renamed.device r) (joins born ns) (joins born (renamed.nodes r ns)) (joins_same born ns) world

  gone_same : (s : State) (n : Node) → is_gone (renamed.state r s) (renamed.node r n) ≡ is_gone s n
  gone_same s n =
      ap (λ (b : Bool). not (is_surprise_removed n.state) && (not b && not (list_any (is_surprise_of n.serial) s.tasks))) (in_world_same s.world n.born)

  gone_child_same : (s : State) (k : ℕ) → gone_child (renamed.state r s) k ≡ option_map (renamed.node r) (gone_child s k)
  gone_child_same s k =
      ap (find (is_gone (renamed.state r s))) (children_same r k s.core.nodes)
      ∙ find_map (renamed.node r) (is_gone s) (is_gone (renamed.state r s)) (gone_same s) (children k s.core.nodes)

  added_node : (xs : List Node) (n : Node) → renamed.nodes r xs ++ renamed.node r n ∷ [] ≡ renamed.nodes r (xs ++ n ∷ [])
  added_node [] n = refl
  added_node (x ∷ xs) n = ap (λ (t : List Node). renamed.node r x ∷ t) (added_node xs n)

  join_same : (s : State) (n : Node) (d : Device) → tasks.join_step (renamed.state r s) (renamed.node r n) (renamed.device r d) ≡ renamed.step r (tasks.join_step s n d)
  join_same s n d =
      ap (λ (reqs : Reqs). with_nodes (renamed.nodes r s.core.nodes ++ new_node s.next_serial n.serial (requires reqs (renamed.device r d)) ∷ [])) (clip_same r s.windows s.core.nodes n.serial d.reqs)
      ∙ ap with_nodes (added_node s.core.nodes (Rattle.pnp_model.specs.States.new_child n.serial d s))
    where
      with_nodes : List Node → Step
      with_nodes ns =
          record {
            label = Label.Join s.next_serial (r.path d.path);
            state = append_task Duty.Starting s.next_serial (record (renamed.state r s) { core = core_of ns s.core.relations (renamed.rack r s.core.rack) s.core.reserved; next_serial = s.next_serial + 1 });
          }

  gone_or_same : (s : State) (n : Node) (o : Option Node) → tasks.gone_or_listed (renamed.state r s) (renamed.node r n) (option_map (renamed.node r) o) ≡ renamed.step r (tasks.gone_or_listed s n o)
  gone_or_same s n None = refl
  gone_or_same s n (Some child) = refl

  join_or_same : (s : State) (n : Node) (o : Option Device) → tasks.join_or_on (renamed.state r s) (renamed.node r n) (option_map (renamed.device r) o) ≡ renamed.step r (tasks.join_or_on s n o)
  join_or_same s n None = ap (tasks.gone_or_listed (renamed.state r s) (renamed.node r n)) (gone_child_same s n.serial) ∙ gone_or_same s n (gone_child s n.serial)
  join_or_same s n (Some d) = join_same s n d

  list_up_same : (s : State) (n : Node) (state : DevState) → tasks.list_up (renamed.state r s) (renamed.node r n) state ≡ renamed.step r (tasks.list_up s n state)
  list_up_same s n Started =
      ap (tasks.join_or_on (renamed.state r s) (renamed.node r n)) (joining_same n.born s.core.nodes s.world) ∙ join_or_same s n (joining n.born s.core.nodes s.world)
  list_up_same s n _ = refl

  pub list_same : (s : State) (k : ℕ) (o : Option Node) → list_step (renamed.state r s) k (option_map (renamed.node r) o) ≡ renamed.step r (list_step s k o)
  list_same s k None = refl
  list_same s k (Some n) = list_up_same s n n.state

  -- Starting ------------------------------------------------------------------------------

  install_same : (s : State) (n : Node) (rank d : ℕ) (ds : List ℕ) → tasks.install (renamed.state r s) (renamed.node r n) rank d ds ≡ renamed.step r (tasks.install s n rank d ds)
  install_same s n rank d ds =
      ap₂ (λ (name : Text) (c : Core). record { label = Label.Install (r.path n.path) rank name; state = begin_activity n.serial (Rattle.pnp_model.specs.Starts.adding ds) (with_core c (drop_task (renamed.state r s))) })
      (name_same r s.core.rack d) (problem_same n.serial None s.core)

  install_named_same : (s : State) (n : Node) (rank : ℕ) (lower : Option (List ℕ)) (d : Option ℕ) (upper : Option (List ℕ)) → tasks.install_named (renamed.state r s) (renamed.node r n) rank lower d upper ≡ renamed.step r (tasks.install_named s n rank lower d upper)
  install_named_same s n rank (Some lower) (Some d) (Some upper) = install_same s n rank d (lower ++ d ∷ upper)
  install_named_same s n rank (Some lower) (Some d) None = trouble_same s n Problem.LoadFailed
  install_named_same s n rank (Some lower) None upper = trouble_same s n Problem.LoadFailed
  install_named_same s n rank None d upper = trouble_same s n Problem.LoadFailed

  install_few_same : (s : State) (n : Node) (choice : Choice) (service : Text) (few : Bool) → tasks.install_few (renamed.state r s) (renamed.node r n) (renamed.choice r choice) (r.name service) few ≡ renamed.step r (tasks.install_few s n choice service few)
  install_few_same s n choice service true =
      ap₂ (λ (lower upper : Option (List ℕ)). tasks.install_named (renamed.state r s) (renamed.node r n) choice.rank lower (driver_named (r.name service) (renamed.rack r s.core.rack)) upper) (numbers_same r s.core.rack choice.lower) (numbers_same r s.core.rack choice.upper)
      ∙ ap (λ (d : Option ℕ). tasks.install_named (renamed.state r s) (renamed.node r n) choice.rank (numbered s.core.rack choice.lower) d (numbered s.core.rack choice.upper)) (number_same r service s.core.rack)
      ∙ install_named_same s n choice.rank (numbered s.core.rack choice.lower) (driver_named service s.core.rack) (numbered s.core.rack choice.upper)
  install_few_same s n choice service false = trouble_same s n Problem.FailedInstall

  few_same : (choice : Choice) → nat_le (length (map r.name choice.lower) + 1 + length (map r.name choice.upper)) 16 ≡ nat_le (length choice.lower + 1 + length choice.upper) 16
  few_same choice = ap₂ (λ (a b : ℕ). nat_le (a + 1 + b) 16) (count_map r.name choice.lower) (count_map r.name choice.upper)

  install_service_same : (s : State) (n : Node) (choice : Choice) (o : Option Text) → tasks.install_service (renamed.state r s) (renamed.node r n) (renamed.choice r choice) (option_map r.name o) ≡ renamed.step r (tasks.install_service s n choice o)
  install_service_same s n choice None = trouble_same s n Problem.FailedInstall
  install_service_same s n choice (Some service) =
      ap (tasks.install_few (renamed.state r s) (renamed.node r n) (renamed.choice r choice) (r.name service)) (few_same choice)
      ∙ install_few_same s n choice service (nat_le (length choice.lower + 1 + length choice.upper) 16)

  install_best_same : (s : State) (n : Node) (o : Option Choice) → tasks.install_best (renamed.state r s) (renamed.node r n) (option_map (renamed.choice r) o) ≡ renamed.step r (tasks.install_best s n o)
  install_best_same s n None = trouble_same s n Problem.FailedInstall
  install_best_same s n (Some choice) = install_service_same s n choice choice.service

  module _ (settings other : Settings) (alike : ChooseAlike r settings other) where
    start_enabled_same : (s : State) (n : Node) (b : Bool) → tasks.start_enabled other (renamed.state r s) (renamed.node r n) b ≡ renamed.step r (tasks.start_enabled settings s n b)
    start_enabled_same s n true = trouble_same s n Problem.Disabled
    start_enabled_same s n false =
        ap (tasks.install_best (renamed.state r s) (renamed.node r n)) (alike.best n.hw n.compat) ∙ install_best_same s n (settings.best n.hw n.compat)

    start_idle_same : (s : State) (n : Node) (o : Option Activity) → tasks.start_idle other (renamed.state r s) (renamed.node r n) o ≡ renamed.step r (tasks.start_idle settings s n o)
    start_idle_same s n (Some a) = refl
    start_idle_same s n None =
        ap (tasks.start_enabled other (renamed.state r s) (renamed.node r n)) (disabled_same n.path s.disabled) ∙ start_enabled_same s n (has_same n.path s.disabled)

    start_bare_same : (s : State) (n : Node) (state : DevState) → tasks.start_bare other (renamed.state r s) (renamed.node r n) state ≡ renamed.step r (tasks.start_bare settings s n state)
    start_bare_same s n NoStack = start_idle_same s n (activity_at n.serial s.activities)
    start_bare_same s n _ = refl

    pub start_same : (s : State) (k : ℕ) (o : Option Node) → start_step other (renamed.state r s) k (option_map (renamed.node r) o) ≡ renamed.step r (start_step settings s k o)
    start_same s k None = refl
    start_same s k (Some n) = start_bare_same s n n.state

  -- Beginning an operation ------------------------------------------------------------------

  begin_same : (s : State) (kind : OpKind) (n : Node) (j : Job) → tasks.begin (renamed.state r s) kind (renamed.node r n) (renamed.job r j) ≡ renamed.step r (tasks.begin s kind n j)
  begin_same s kind n j = refl

  begin_by : (s : State) (kind : OpKind) (n : Node) (j k : Job) → k ≡ renamed.job r j → tasks.begin (renamed.state r s) kind (renamed.node r n) k ≡ renamed.step r (tasks.begin s kind n j)
  begin_by s kind n j k e = ap (tasks.begin (renamed.state r s) kind (renamed.node r n)) e

  rebalance_idle_same : (s : State) (n : Node) (o : Option Activity) → tasks.rebalance_idle (renamed.state r s) (renamed.node r n) o ≡ renamed.step r (tasks.rebalance_idle s n o)
  rebalance_idle_same s n (Some a) = refl
  rebalance_idle_same s n None = begin_by s OpKind.Rebalance n (rebalances.begun_rebalance s.core n) _ (begun_same r s.core OpKind.Rebalance n None)

  rebalance_same : (s : State) (n : Node) (state : DevState) → tasks.rebalance_task (renamed.state r s) (renamed.node r n) state ≡ renamed.step r (tasks.rebalance_task s n state)
  rebalance_same s n NotStarted = rebalance_idle_same s n (activity_at n.serial s.activities)
  rebalance_same s n _ = refl

  disable_same : (s : State) (n : Node) (b : Bool) → tasks.disable_task (renamed.state r s) (renamed.node r n) b ≡ renamed.step r (tasks.disable_task s n b)
  disable_same s n true = refl
  disable_same s n false = begin_by s OpKind.Disable n (removals.begun_removal s.core OpKind.Disable n) _ (removal_begun r s.core OpKind.Disable n)

  surprise_by : (s : State) (n : Node) → tasks.begin (renamed.state r s) OpKind.Surprise (renamed.node r n) (surprises.begun_surprise (renamed.core r s.core) (renamed.node r n)) ≡ renamed.step r (tasks.begin s OpKind.Surprise n (surprises.begun_surprise s.core n))
  surprise_by s n = begin_by s OpKind.Surprise n (surprises.begun_surprise s.core n) _ (surprise_begun r s.core n)

  surprise_same : (s : State) (n : Node) (state : DevState) → tasks.surprise_task (renamed.state r s) (renamed.node r n) state ≡ renamed.step r (tasks.surprise_task s n state)
  surprise_same s n SurpriseRemoved = refl
  surprise_same s n NoStack = surprise_by s n
  surprise_same s n NotStarted = surprise_by s n
  surprise_same s n Started = surprise_by s n
  surprise_same s n StopPending = surprise_by s n
  surprise_same s n Stopped = surprise_by s n
  surprise_same s n RemovePending = surprise_by s n

  finish_same : (s : State) (n : Node) (b : Bool) → tasks.finish_task (renamed.state r s) (renamed.node r n) b ≡ renamed.step r (tasks.finish_task s n b)
  finish_same s n true = refl
  finish_same s n false = refl

  change_born_same : (s : State) (n : Node) (o : Option Device) → tasks.change_born (renamed.state r s) (renamed.node r n) (option_map (renamed.device r) o) ≡ renamed.step r (tasks.change_born s n o)
  change_born_same s n None = refl
  change_born_same s n (Some d) =
      begin_by s OpKind.Change n (rebalances.begun_change s.core n (let_through n.parent d s)) _
      (ap (rebalances.begun_change (renamed.core r s.core) (renamed.node r n)) (clip_same r s.windows s.core.nodes n.parent d.reqs)
      ∙ begun_same r s.core OpKind.Change n (Some (let_through n.parent d s)))

  change_same : (s : State) (n : Node) (state : DevState) → tasks.change_task (renamed.state r s) (renamed.node r n) state ≡ renamed.step r (tasks.change_task s n state)
  change_same s n Started = ap (tasks.change_born (renamed.state r s) (renamed.node r n)) (born_same n.born s.world) ∙ change_born_same s n (device_born n.born s.world)
  change_same s n _ = refl

  pub begin_step_same : (s : State) (kind : OpKind) (k : ℕ) (o : Option Node) → begin_step (renamed.state r s) kind k (option_map (renamed.node r) o) ≡ renamed.step r (begin_step s kind k o)
  begin_step_same s kind k None = refl
  begin_step_same s OpKind.Rebalance k (Some n) = rebalance_same s n n.state
  begin_step_same s OpKind.Disable k (Some n) =
      ap (tasks.disable_task (renamed.state r s) (renamed.node r n)) (disabled_same n.path s.disabled) ∙ disable_same s n (has_same n.path s.disabled)
  begin_step_same s OpKind.Eject k (Some n) = begin_by s OpKind.Eject n (removals.begun_removal s.core OpKind.Eject n) _ (removal_begun r s.core OpKind.Eject n)
  begin_step_same s OpKind.Surprise k (Some n) = surprise_same s n n.state
  begin_step_same s OpKind.Finish k (Some n) =
      ap (tasks.finish_task (renamed.state r s) (renamed.node r n)) (ready_one r s.core s.handles n) ∙ finish_same s n (is_ready_device s.core s.handles n)
  begin_step_same s OpKind.Change k (Some n) = change_same s n n.state
