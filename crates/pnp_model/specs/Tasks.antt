-- The tasks: listing, the begin of a start, and the begin of an operation.
use Rattle.std.specs.Prelude.{ℕ, ◌+◌, ◌==◌, Bool, true, false, not, ◌&&◌, List, [], ◌∷◌, ◌++◌, Option, Some, None, nat_le, find, length}
use Rattle.std.specs.List.{list_any}
use Rattle.device_ids.specs.Folding.{same}
use Rattle.pnp_model.specs.Tests.{has_same, is_surprise_removed, is_surprise_task, task_word}
use Rattle.pnp_model.specs.Books.{name_of, driver_named}
use Rattle.pnp_model.specs.Cores.{set_problem}
use Rattle.pnp_model.specs.Trees.{children}
use Rattle.pnp_model.specs.States.{append_task, drop_task, activity_at, begin_activity, set_operation, with_core, join_node, is_in_world, device_born, let_through}
use Rattle.pnp_model.specs.Starts.{adding}
use Rattle.pnp_model.specs.Rebalances.{begun_rebalance, begun_change}
use Rattle.pnp_model.specs.Removals.{begun_removal}
use Rattle.pnp_model.specs.Surprises.{begun_surprise}
use Rattle.pnp_model.specs.Finishes.{begun_finish}
use Rattle.pnp_model.specs.Handles.{is_ready_device}
use Rattle.pnp_model.specs.Records.{Node, Device, Driver, Task, State, Step, Job, Activity, Settings, Choice, Duty}
use Rattle.pnp_labels.specs.Texts.{Text}
use Rattle.pnp_labels.specs.declared.states.DevState.{DevState}
use Rattle.pnp_labels.specs.declared.states.Problem.{Problem}
use Rattle.pnp_labels.specs.declared.label.OpKind.{OpKind}
use Rattle.pnp_labels.specs.declared.label.Label.{Label}
use Rattle.pnp_labels.specs.declared.states.DevState.TheVariants.{NoStack, NotStarted, Started, SurpriseRemoved}
use Rattle.pnp_model.specs.Records.Duty.{Listing, Starting, Begins}

abbrev pub skip : Duty → ℕ → State → Step
skip kind k s = record { label = Label.Skip (task_word kind) k; state = drop_task s }

-- Listing -------------------------------------------------------------------

abbrev pub has_born : ℕ → List Node → Bool
has_born born nodes = list_any (λ n. n.born == born) nodes

abbrev pub has_path : Text → List Node → Bool
has_path path nodes = list_any (λ n. same n.path path) nodes

-- a world child of the birth number, for which no node has the birth number or the path
abbrev pub joins : ℕ → List Node → Device → Bool
joins born nodes d = d.parent == born && not (has_born d.born nodes) && not (has_path d.path nodes)

abbrev pub joining : ℕ → List Node → List Device → Option Device
joining born nodes world = find (joins born nodes) world

abbrev pub is_surprise_of : ℕ → Task → Bool
is_surprise_of k task = is_surprise_task task.kind && task.serial == k

-- a child that was not told so yet and whose birth number is not in the world, without a surprise task
abbrev pub is_gone : State → Node → Bool
is_gone s n =
    not (is_surprise_removed n.state) && (not (is_in_world s.world n.born) && not (list_any (is_surprise_of n.serial) s.tasks))

abbrev pub gone_child : State → ℕ → Option Node
gone_child s k = find (is_gone s) (children k s.core.nodes)

abbrev pub join_step : State → Node → Device → Step
join_step s node d =
    record { label = Label.Join s.next_serial d.path; state = append_task Starting s.next_serial (join_node node.serial d s) }

abbrev pub gone_or_listed : State → Node → Option Node → Step
gone_or_listed s node None = record { label = Label.Listed node.path; state = drop_task s }
gone_or_listed s node (Some child) =
    record { label = Label.Gone child.path; state = append_task (Begins OpKind.Surprise) child.serial s }

abbrev pub join_or_on : State → Node → Option Device → Step
join_or_on s node None = gone_or_listed s node (gone_child s node.serial)
join_or_on s node (Some d) = join_step s node d

abbrev pub list_up : State → Node → DevState → Step
list_up s node Started = join_or_on s node (joining node.born s.core.nodes s.world)
list_up s node _ = skip Listing node.serial s

abbrev pub list_step : State → ℕ → Option Node → Step
list_step s k None = skip Listing k s
list_step s k (Some node) = list_up s node node.state

-- Starting ------------------------------------------------------------------

abbrev pub begin_trouble : State → Node → Problem → Step
begin_trouble s node problem =
    record {
      label = Label.Trouble node.path problem;
      state = with_core (set_problem node.serial (Some problem) s.core) (drop_task s);
    }

abbrev pub install : State → Node → ℕ → ℕ → List ℕ → Step
install s node rank driver drivers =
    record {
      label = Label.Install node.path rank (name_of s.core.rack driver);
      state = begin_activity node.serial (adding drivers) (with_core (set_problem node.serial None s.core) (drop_task s));
    }

-- the numbers of the drivers with these names; none where one has no namesake
abbrev pub numbered_more : Option ℕ → Option (List ℕ) → Option (List ℕ)
numbered_more (Some k) (Some ks) = Some (k ∷ ks)
numbered_more (Some k) None = None
numbered_more None ks = None

abbrev pub numbered : List Driver → List Text → Option (List ℕ)
numbered rack [] = Some []
numbered rack (name ∷ names) = numbered_more (driver_named name rack) (numbered rack names)

abbrev pub install_named : State → Node → ℕ → Option (List ℕ) → Option ℕ → Option (List ℕ) → Step
install_named s node rank (Some lower) (Some driver) (Some upper) =
    install s node rank driver (lower ++ driver ∷ upper)
install_named s node rank (Some lower) (Some driver) None = begin_trouble s node Problem.LoadFailed
install_named s node rank (Some lower) None upper = begin_trouble s node Problem.LoadFailed
install_named s node rank None driver upper = begin_trouble s node Problem.LoadFailed

abbrev pub install_few : State → Node → Choice → Text → Bool → Step
install_few s node choice service true =
    install_named s node choice.rank (numbered s.core.rack choice.lower) (driver_named service s.core.rack) (numbered s.core.rack choice.upper)
install_few s node choice service false = begin_trouble s node Problem.FailedInstall

abbrev pub install_service : State → Node → Choice → Option Text → Step
install_service s node choice None = begin_trouble s node Problem.FailedInstall
install_service s node choice (Some service) =
    install_few s node choice service (nat_le (length choice.lower + 1 + length choice.upper) 16)

abbrev pub install_best : State → Node → Option Choice → Step
install_best s node None = begin_trouble s node Problem.FailedInstall
install_best s node (Some choice) = install_service s node choice choice.service

-- is the path disabled?
abbrev pub start_enabled : Settings → State → Node → Bool → Step
start_enabled settings s node true = begin_trouble s node Problem.Disabled
start_enabled settings s node false = install_best s node (settings.best node.hw node.compat)

-- has it an activity?
abbrev pub start_idle : Settings → State → Node → Option Activity → Step
start_idle settings s node (Some a) = skip Starting node.serial s
start_idle settings s node None = start_enabled settings s node (has_same node.path s.disabled)

abbrev pub start_bare : Settings → State → Node → DevState → Step
start_bare settings s node NoStack = start_idle settings s node (activity_at node.serial s.activities)
start_bare settings s node _ = skip Starting node.serial s

abbrev pub start_step : Settings → State → ℕ → Option Node → Step
start_step settings s k None = skip Starting k s
start_step settings s k (Some node) = start_bare settings s node node.state

-- Beginning an operation ------------------------------------------------------

abbrev pub begin : State → OpKind → Node → Job → Step
begin s kind node job =
    record { label = Label.Begin kind node.path; state = set_operation (Some job) (drop_task s) }

abbrev pub rebalance_idle : State → Node → Option Activity → Step
rebalance_idle s node (Some a) = skip (Begins OpKind.Rebalance) node.serial s
rebalance_idle s node None = begin s OpKind.Rebalance node (begun_rebalance s.core node)

abbrev pub rebalance_task : State → Node → DevState → Step
rebalance_task s node NotStarted = rebalance_idle s node (activity_at node.serial s.activities)
rebalance_task s node _ = skip (Begins OpKind.Rebalance) node.serial s

-- is the path disabled?
abbrev pub disable_task : State → Node → Bool → Step
disable_task s node true = skip (Begins OpKind.Disable) node.serial s
disable_task s node false = begin s OpKind.Disable node (begun_removal s.core OpKind.Disable node)

abbrev pub surprise_task : State → Node → DevState → Step
surprise_task s node SurpriseRemoved = skip (Begins OpKind.Surprise) node.serial s
surprise_task s node _ = begin s OpKind.Surprise node (begun_surprise s.core node)

-- is it ready?
abbrev pub finish_task : State → Node → Bool → Step
finish_task s node false = skip (Begins OpKind.Finish) node.serial s
finish_task s node true = begin s OpKind.Finish node (begun_finish node)

-- is its device in the world still? What is wanted is what that device requires now
abbrev pub change_born : State → Node → Option Device → Step
change_born s node None = skip (Begins OpKind.Change) node.serial s
change_born s node (Some d) =
    begin s OpKind.Change node (begun_change s.core node (let_through node.parent d s))

abbrev pub change_task : State → Node → DevState → Step
change_task s node Started = change_born s node (device_born node.born s.world)
change_task s node _ = skip (Begins OpKind.Change) node.serial s

abbrev pub begin_step : State → OpKind → ℕ → Option Node → Step
begin_step s kind k None = skip (Begins kind) k s
begin_step s OpKind.Rebalance k (Some node) = rebalance_task s node node.state
begin_step s OpKind.Disable k (Some node) = disable_task s node (has_same node.path s.disabled)
begin_step s OpKind.Eject k (Some node) = begin s OpKind.Eject node (begun_removal s.core OpKind.Eject node)
begin_step s OpKind.Surprise k (Some node) = surprise_task s node node.state
begin_step s OpKind.Finish k (Some node) = finish_task s node (is_ready_device s.core s.handles node)
begin_step s OpKind.Change k (Some node) = change_task s node node.state
