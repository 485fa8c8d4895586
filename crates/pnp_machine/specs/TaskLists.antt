-- The list of the tasks in the words of the machine, and the index of its surprise tasks.
use Rattle.std.specs.Prelude.{◌≡◌, ℕ, ◌+◌, ◌==◌, ◌≤◌, if◌then◌else◌, List as Listed, Option, Some, None, slice_get, option_map, unwrap_or, count_by, nat_eq}
use Rattle.std.specs.declared.alloc.Global.{Global}
use Rattle.std.specs.declared.hash.FoldHasher.{FoldHasher}
use Rattle.std.specs.declared.hash.BuildHasherDefault.{BuildHasherDefault}
use Rattle.std.specs.HashMap.{HashMap, get, spare}
use Rattle.std.specs.VecDeque.{deque_len, deque_capacity}
use Rattle.std.specs.declared.collections.VecDeque.{VecDeque}
use Rattle.pnp_model.specs.Records as machines
use Rattle.pnp_model.specs.Tasks.{is_surprise_of}
use Rattle.pnp_machine.specs.declared.tasks.Duty.{Duty}
use Rattle.pnp_machine.specs.declared.tasks.Duty.TheVariants.{List, Start, Begin}

-- the tasks, and for how many more there is room
pub record Tasks : Type 0 where
  pub tasks : Listed machines.Task
  pub room : ℕ

abbrev pub duty_of : Duty → machines.Duty
duty_of List = machines.Duty.Listing
duty_of Start = machines.Duty.Starting
duty_of (Begin kind) = machines.Duty.Begins kind

abbrev pub task_of : Duty × ℕ → machines.Task
task_of task = record { kind = duty_of task.0; serial = task.1 }

-- what the first task is for, and for which device
abbrev pub IsFirst : Option (Duty × ℕ) → Listed machines.Task → Type 0
IsFirst first tasks = option_map task_of first ≡ slice_get tasks 0

-- The index ---------------------------------------------------------------------

abbrev pub Counts : Type 0
Counts = HashMap ℕ ℕ (BuildHasherDefault FoldHasher)

-- the count of a device, which is 0 where it has none
abbrev pub count_at : Counts → ℕ → ℕ
count_at counts k = unwrap_or (get nat_eq counts k) 0

-- how many surprise tasks a device has
abbrev pub surprises_of : ℕ → Listed machines.Task → ℕ
surprises_of k tasks = count_by (is_surprise_of k) tasks

-- a count as the index has it: none for 0
abbrev pub counted : ℕ → Option ℕ
counted n = if n == 0 then None else Some n

-- the index has the number of surprise tasks of each device, and there is room for more in both
pub record IsCounted (tasks : VecDeque machines.Task Global) (counts : Counts) (room : ℕ) : Type 0 where
  pub index : (k : ℕ) → get nat_eq counts k ≡ counted (surprises_of k tasks.items)
  pub tasks_room : deque_len tasks + room ≤ deque_capacity tasks
  pub index_room : room ≤ spare counts
