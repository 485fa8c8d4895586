-- The small changes of nodes, relations and rack, of which each step is made.
use Rattle.std.specs.Prelude.{ℕ, ◌==◌, Bool, not, ◌||◌, List, [], ◌∷◌, ◌++◌, Option, Some, None, find, map}
use Rattle.pnp_model.specs.Keyed.{changed_first, without_first, those}
use Rattle.resource_reqs.specs.Resources.{Res, Reqs}
use Rattle.pnp_model.specs.Records.{Node, Core, Driver, Relation, Device}
use Rattle.pnp_labels.specs.Texts.{Text}
use Rattle.pnp_labels.specs.declared.states.DevState.{DevState}
use Rattle.pnp_labels.specs.declared.states.Problem.{Problem}
use Rattle.pnp_labels.specs.declared.words.Minor.{Minor}
use Rattle.pnp_labels.specs.declared.states.DevState.TheVariants.{NoStack, NotStarted}
use Rattle.pnp_labels.specs.declared.words.Minor.TheVariants.{Start, QueryRemove, Remove, CancelRemove, Stop, QueryStop, CancelStop, SurpriseRemoval}

abbrev pub core_of : List Node → List Relation → List Driver → List Res → Core
core_of nodes relations rack reserved = record { nodes = nodes; relations = relations; rack = rack; reserved = reserved }

abbrev pub is_node : ℕ → Node → Bool
is_node k n = n.serial == k

abbrev pub node_at : ℕ → List Node → Option Node
node_at k nodes = find (is_node k) nodes

abbrev pub with_state : DevState → Node → Node
with_state state n = record n { state = state }

abbrev pub with_problem : Option Problem → Node → Node
with_problem problem n = record n { problem = problem }

abbrev pub with_stack : List ℕ → DevState → Node → Node
with_stack stack state n = record n { stack = stack; state = state }

abbrev pub with_holds : List Res → Node → Node
with_holds holds n = record n { holds = holds }

-- without drivers and holdings
abbrev pub bare : Node → Node
bare n = record n { state = NoStack; stack = []; holds = [] }

-- the first driver makes the device NotStarted
abbrev pub stacked : DevState → DevState
stacked NoStack = NotStarted
stacked state = state

abbrev pub change_node : ℕ → (Node → Node) → Core → Core
change_node k f c = record c { nodes = changed_first (is_node k) f c.nodes }

abbrev pub set_state : ℕ → DevState → Core → Core
set_state k state c = change_node k (with_state state) c

abbrev pub set_problem : ℕ → Option Problem → Core → Core
set_problem k problem c = change_node k (with_problem problem) c

-- the stack and the state of a device change at once
abbrev pub set_stack : ℕ → List ℕ → DevState → Core → Core
set_stack k stack state c = change_node k (with_stack stack state) c

abbrev pub set_holds : ℕ → List Res → Core → Core
set_holds k holds c = change_node k (with_holds holds) c

abbrev pub set_rack : List Driver → Core → Core
set_rack rack c = record c { rack = rack }

abbrev pub drop_node : ℕ → Core → Core
drop_node k c = record c { nodes = without_first (is_node k) c.nodes }

-- relations of which the device is neither owner nor member
abbrev pub is_apart_from : ℕ → Relation → Bool
is_apart_from k r = not (r.owner == k || r.member == k)

abbrev pub forget : ℕ → List Relation → List Relation
forget k relations = those (is_apart_from k) relations

-- the device loses its drivers, its holdings and its relations
abbrev pub strip : ℕ → Core → Core
strip k c = record (change_node k bare c) { relations = forget k c.relations }

-- a walk of the device ends, after which it has this state
abbrev pub end_walk : ℕ → Minor → DevState → Core → Core
end_walk k Remove state c = strip k c
end_walk k Start state c = set_state k state c
end_walk k QueryRemove state c = set_state k state c
end_walk k CancelRemove state c = set_state k state c
end_walk k Stop state c = set_state k state c
end_walk k QueryStop state c = set_state k state c
end_walk k CancelStop state c = set_state k state c
end_walk k SurpriseRemoval state c = set_state k state c

-- only the drivers, not the state
abbrev pub with_drivers : List ℕ → Node → Node
with_drivers stack n = record n { stack = stack }

-- a node that has just joined: without drivers, holdings or a problem
abbrev pub fresh_node : (serial parent born : ℕ) (path : Text) (hw compat : List Text) (reqs : Reqs) → Node
fresh_node serial parent born path hw compat reqs =
    record {
      serial = serial;
      parent = parent;
      born = born;
      path = path;
      hw = hw;
      compat = compat;
      reqs = reqs;
      state = NoStack;
      problem = None;
      stack = [];
      holds = [];
    }

abbrev pub new_node : ℕ → ℕ → Device → Node
new_node serial parent d = fresh_node serial parent d.born d.path d.hw d.compat d.reqs

abbrev pub add_node : Node → Core → Core
add_node n c = record c { nodes = c.nodes ++ n ∷ [] }

abbrev pub serials_of : List Node → List ℕ
serials_of nodes = map (λ n. n.serial) nodes

-- the stack of a device that may not be there
abbrev pub stack_of : Option Node → List ℕ
stack_of None = []
stack_of (Some n) = n.stack

abbrev pub path_of : Option Node → Text
path_of None = []
path_of (Some n) = n.path
