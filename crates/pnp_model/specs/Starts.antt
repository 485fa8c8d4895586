-- The activity that starts one device.
use Rattle.std.specs.Prelude.{ℕ, Bool, true, false, List, [], ◌∷◌, ◌++◌, Some, length}
use Rattle.resource_reqs.specs.Resources.{Res}
use Rattle.resource_reqs.specs.Spelling.Answer.{assignment, no_fit, spent}
use Rattle.pnp_model.specs.Books.{name_of, rack_reply}
use Rattle.pnp_model.specs.Walks.{walk_of, is_bad, has_ended}
use Rattle.pnp_model.specs.Cores.{stacked, set_problem, set_stack, set_holds}
use Rattle.pnp_model.specs.Frames.{Move, Ask, core_after, asked, state_label, ended, fixed_beside}
use Rattle.pnp_model.specs.Records.{Node, Core, Walk, Phase, Found, Doing, SearchProblem}
use Rattle.pnp_model.specs.Records.Phase.{Adding, Searching, Starting, Removing, Due}
use Rattle.pnp_model.specs.Records.Doing.{Does, Searches}
use Rattle.pnp_labels.specs.declared.words.Answer.{Answer}
use Rattle.pnp_labels.specs.declared.words.AskWhat.{AskWhat}
use Rattle.pnp_labels.specs.declared.label.Label.{Label}
use Rattle.pnp_labels.specs.declared.words.Minor.{Minor}
use Rattle.pnp_labels.specs.declared.states.Problem.{Problem}
use Rattle.pnp_labels.specs.declared.words.Answer.TheVariants.{Ok, Fail, Pend}

-- what the machine has to do: nothing; append the rebalance of the device; append its listing; in all
-- but the first the activity ends
pub data StartBeside : Type 0 where
  On : StartBeside
  Needs : StartBeside
  Up : StartBeside
  Over : StartBeside

abbrev pub StartMove : Type 0
StartMove = Move Phase StartBeside

abbrev pub goes : Label → Core → Phase → StartMove
goes label c phase = record { label = label; core = c; frame = phase; beside = StartBeside.On }

abbrev pub parts : Label → Core → Phase → StartBeside → StartMove
parts label c phase beside = record { label = label; core = c; frame = phase; beside = beside }

-- after the last driver the search follows
abbrev pub adding : List ℕ → Phase
adding [] = Searching
adding (d ∷ ds) = Adding (d ∷ ds)

-- driver d answers Add; c is what is there after the answer
abbrev pub add_driver : Core → Node → ℕ → List ℕ → Answer → StartMove
add_driver c node d ds Ok =
    goes (Label.Add node.path (name_of c.rack d) true)
    (set_stack node.serial (node.stack ++ d ∷ []) (stacked node.state) c) (adding ds)
add_driver c node d ds Fail = goes (Label.Add node.path (name_of c.rack d) false) c (Due Problem.FailedAdd)
add_driver c node d ds Pend = goes (Label.Add node.path (name_of c.rack d) false) c (Due Problem.FailedAdd)

-- the holdings of the one mover
abbrev pub own_part : List (List Res) → List Res
own_part [] = []
own_part (holds ∷ plan) = holds

abbrev pub searched : Core → Node → Found → StartMove
searched c node (assignment plan) =
    goes (Label.Assign node.path (own_part plan)) (set_holds node.serial (own_part plan) c) (Starting (walk_of Minor.Start))
searched c node no_fit = parts (Label.NoFit node.path) c Searching StartBeside.Needs
searched c node spent = goes (Label.Spent node.path) c (Due Problem.Budget)

abbrev pub own_problem : Core → Node → SearchProblem
own_problem c node = record { fixed = fixed_beside c (node.serial ∷ []); movers = node.reqs ∷ [] }

-- one ask of a walk
abbrev pub asks : (Walk → Phase) → Ask → StartMove
asks phase ask = goes ask.label ask.core (phase ask.walk)

abbrev pub end_start : Core → Node → Bool → StartMove
end_start c node true = goes (state_label node Minor.Start true) (ended c node Minor.Start true) (Due Problem.FailedStart)
end_start c node false =
    parts (state_label node Minor.Start false) (ended c node Minor.Start false) Searching StartBeside.Up

abbrev pub start_on : Core → Node → Walk → Bool → StartMove
start_on c node w true = end_start c node (is_bad w)
start_on c node w false = asks Starting (asked c node w)

abbrev pub remove_on : Core → Node → Walk → Bool → StartMove
remove_on c node w true =
    parts (state_label node Minor.Remove false) (ended c node Minor.Remove false) Searching StartBeside.Over
remove_on c node w false = asks Removing (asked c node w)

-- after a problem the drivers are removed, if there are any
abbrev pub undo : Core → Node → Problem → List ℕ → StartMove
undo c node problem [] = parts (Label.Trouble node.path problem) c Searching StartBeside.Over
undo c node problem (d ∷ ds) = goes (Label.Trouble node.path problem) c (Removing (walk_of Minor.Remove))

abbrev pub act : Core → Node → Phase → Doing StartMove
act c node (Adding []) = Searches (own_problem c node) (searched c node)
act c node (Adding (d ∷ ds)) =
    Does (add_driver (core_after c AskWhat.Add node.path d) node d ds (rack_reply AskWhat.Add node.path c.rack d))
act c node Searching = Searches (own_problem c node) (searched c node)
act c node (Starting w) = Does (start_on c node w (has_ended w (length node.stack)))
act c node (Removing w) = Does (remove_on c node w (has_ended w (length node.stack)))
act c node (Due problem) = Does (undo (set_problem node.serial (Some problem) c) node problem node.stack)
