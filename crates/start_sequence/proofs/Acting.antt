-- The parts of a step of a start, as the step that the machine has.
use Rattle.std.proofs.Common.{◌≡◌, ℕ, zero, suc, Bool, true, false, List, [], ◌∷◌, Option, Some, None, refl, sym, ap, arith, slice_get, slice_set}
use Rattle.pnp_labels.specs.Texts.{Text}
use Rattle.pnp_labels.specs.declared.label.Label.{Label}
use Rattle.pnp_labels.specs.declared.states.Problem.{Problem}
use Rattle.pnp_labels.specs.declared.words.Answer.{Answer}
use Rattle.pnp_labels.specs.declared.words.Answer.TheVariants.{Ok, Fail, Pend}
use Rattle.pnp_labels.specs.declared.words.AskWhat.{AskWhat}
use Rattle.pnp_labels.specs.declared.words.Minor.{Minor}
use Rattle.pnp_model.specs.Records.{Node, Core, Driver, Walk, Phase}
use Rattle.pnp_model.specs.Records.Phase.{Adding, Searching, Starting, Removing, Due}
use Rattle.pnp_model.specs.Books.{name_of, name_or_none, printed_name, rack_reply, rack_after, with_later, later}
use Rattle.pnp_model.specs.Cores.{is_node, forget, bare, strip, set_problem}
use Rattle.pnp_model.specs.Keyed.{changed_first}
use Rattle.pnp_model.specs.Frames.{core_after}
use Rattle.pnp_model.specs.Starts.{add_driver, act, undo}
use Rattle.pnp_model.specs.Walks.{walk_of}
use Rattle.start_sequence.specs.Steps.{Moved, Done, DoneFor, first_pending, phase_added, is_ok}
use Rattle.start_sequence.specs.Parts.{nodes_added, AddedFor, StartsFor, RemovesFor, SearchedFor, TroubledFor}
use Rattle.start_sequence.specs.declared.next.StartStep.{StartStep}
use Rattle.start_sequence.specs.declared.next.StartStep.TheVariants as steps
use Rattle.start_sequence.specs.declared.next.Started.TheVariants as starts
use Rattle.start_sequence.specs.declared.next.Removed.TheVariants as removes

-- without relations there is nothing to forget
pub stripped : (k : ℕ) (c : Core) → forget k c.relations ≡ c.relations → record c { nodes = changed_first (is_node k) bare c.nodes } ≡ strip k c
stripped k c none = ap (λ r. record c { nodes = changed_first (is_node k) bare c.nodes; relations = r }) (sym none)

-- a driver that is asked keeps its name
named_in : (what : AskWhat) (path : Text) (rack : List Driver) (k : ℕ) (d : Driver) → slice_get rack k ≡ Some d
    → name_or_none (slice_get (slice_set rack k (record d { book = later what path d.book })) k) ≡ name_or_none (slice_get rack k)
named_in what path [] k d at = absurd (cc)
named_in what path (x ∷ rack) zero d at = grind arith
named_in what path (x ∷ rack) (suc k) d at = grind (arith, named_in what path rack k d)

name_by : (what : AskWhat) (path : Text) (rack : List Driver) (k : ℕ) (o : Option Driver) → slice_get rack k ≡ o
    → name_of (with_later what path rack k o) k ≡ name_of rack k
name_by what path rack k None at = refl
name_by what path rack k (Some d) at = ap printed_name (named_in what path rack k d at)

name_after : (what : AskWhat) (path : Text) (rack : List Driver) (k : ℕ) → name_of (rack_after what path rack k) k ≡ name_of rack k
name_after what path rack k = name_by what path rack k (slice_get rack k) refl

-- with these nodes and drivers
abbrev left : Core → List Node → List Driver → Core
left c nodes rack = record c { nodes = nodes; rack = rack }

module _ (c : Core) (node : Node) where
  added_by : (d : ℕ) (ds : List ℕ) (a : Answer)
      → Moved (add_driver (core_after c AskWhat.Add node.path d) node d ds a)
      (steps.Did (Label.Add node.path (name_of c.rack d) (is_ok a)))
      (left c (nodes_added node d (is_ok a) c.nodes) (rack_after AskWhat.Add node.path c.rack d)) (phase_added (Adding (d ∷ ds)) (is_ok a))
  added_by d ds Ok = (refl, ap (λ name. Label.Add node.path name true) (sym (name_after AskWhat.Add node.path c.rack d)), refl, refl)
  added_by d ds Fail = (refl, ap (λ name. Label.Add node.path name false) (sym (name_after AskWhat.Add node.path c.rack d)), refl, refl)
  added_by d ds Pend = (refl, ap (λ name. Label.Add node.path name false) (sym (name_after AskWhat.Add node.path c.rack d)), refl, refl)

  added_first : (budget : ℕ) (drivers : List ℕ) (d : ℕ) → slice_get drivers 0 ≡ Some d
      → Done budget (act c node (Adding drivers))
      (steps.Did (Label.Add node.path (name_of c.rack d) (is_ok (rack_reply AskWhat.Add node.path c.rack d))))
      (left c (nodes_added node d (is_ok (rack_reply AskWhat.Add node.path c.rack d)) c.nodes) (rack_after AskWhat.Add node.path c.rack d))
      (phase_added (Adding drivers) (is_ok (rack_reply AskWhat.Add node.path c.rack d)))
  added_first budget [] d at = absurd (cc)
  added_first budget (e ∷ ds) d at =
      let same : e ≡ d = grind arith in
      rw same (added_by d ds (rack_reply AskWhat.Add node.path c.rack d))

pub added : (budget : ℕ) (o : Option Node) (c : Core) (nodes' : List Node) (rack' : List Driver) (phase : Phase) (d : ℕ) (label : Label) (ok : Bool)
    → first_pending phase ≡ Some d → AddedFor o d c.nodes c.rack label ok nodes' rack'
    → DoneFor budget o c phase (steps.Did label) (record c { nodes = nodes'; rack = rack' }) (phase_added phase ok)
added budget None c nodes' rack' phase d label ok at h = h
added budget (Some node) c nodes' rack' (Adding drivers) d label ok at h =
    λ none. rw (h.1, h.2, h.3, h.0) (added_first c node budget drivers d at)
added budget (Some node) c nodes' rack' Searching d label ok at h = absurd (cc)
added budget (Some node) c nodes' rack' (Starting w) d label ok at h = absurd (cc)
added budget (Some node) c nodes' rack' (Removing w) d label ok at h = absurd (cc)
added budget (Some node) c nodes' rack' (Due problem) d label ok at h = absurd (cc)

module _ (budget : ℕ) (o : Option Node) (c c' : Core) (w w' : Walk) (label : Label) where
  pub start_goes : StartsFor o c w (starts.On label) c' w' → DoneFor budget o c (Starting w) (steps.Did label) c' (Starting w')
  start_goes = by_node o
    where
      by_node : (o : Option Node) → StartsFor o c w (starts.On label) c' w' → DoneFor budget o c (Starting w) (steps.Did label) c' (Starting w')
      by_node None h = h
      by_node (Some node) h = λ none. (h.0, h.1, h.2, sym h.3)

  pub start_refused : StartsFor o c w (starts.Refused label) c' w' → DoneFor budget o c (Starting w) (steps.Did label) c' (Due Problem.FailedStart)
  start_refused = by_node o
    where
      by_node : (o : Option Node) → StartsFor o c w (starts.Refused label) c' w' → DoneFor budget o c (Starting w) (steps.Did label) c' (Due Problem.FailedStart)
      by_node None h = h
      by_node (Some node) h = λ none. (h.0, h.1, h.2, sym h.3)

  pub start_ends : StartsFor o c w (starts.Up label) c' w' → DoneFor budget o c (Starting w) (steps.Up label) c' (Starting w')
  start_ends = by_node o
    where
      by_node : (o : Option Node) → StartsFor o c w (starts.Up label) c' w' → DoneFor budget o c (Starting w) (steps.Up label) c' (Starting w')
      by_node None h = h
      by_node (Some node) h = λ none. h

  pub remove_goes : RemovesFor o c w (removes.On label) c' w' → DoneFor budget o c (Removing w) (steps.Did label) c' (Removing w')
  remove_goes = by_node o
    where
      by_node : (o : Option Node) → RemovesFor o c w (removes.On label) c' w' → DoneFor budget o c (Removing w) (steps.Did label) c' (Removing w')
      by_node None h = h
      by_node (Some node) h = λ none. let g = h none in (g.0, g.1, g.2, sym g.3)

  pub remove_ends : RemovesFor o c w (removes.Over label) c' w' → DoneFor budget o c (Removing w) (steps.Over label) c' (Removing w')
  remove_ends = by_node o
    where
      by_node : (o : Option Node) → RemovesFor o c w (removes.Over label) c' w' → DoneFor budget o c (Removing w) (steps.Over label) c' (Removing w')
      by_node None h = h
      by_node (Some node) h = h

-- the search is a part of the start where no driver is to be asked
pub searched : (budget : ℕ) (o : Option Node) (c c' : Core) (step : StartStep) (phase : Phase) → SearchedFor budget o c step c' phase → DoneFor budget o c Searching step c' phase
searched budget None c c' step phase h = h
searched budget (Some node) c c' step phase h = λ none. h

pub searched_at_once : (budget : ℕ) (o : Option Node) (c c' : Core) (step : StartStep) (drivers : List ℕ) (phase : Phase) → slice_get drivers 0 ≡ None
    → SearchedFor budget o c step c' phase → DoneFor budget o c (Adding drivers) step c' phase
searched_at_once budget o c c' step (d ∷ ds) phase at h = absurd (cc)
searched_at_once budget None c c' step [] phase at h = h
searched_at_once budget (Some node) c c' step [] phase at h = λ none. h

module _ (budget : ℕ) (c : Core) (nodes' : List Node) (label : Label) where
  pub troubled : (o : Option Node) (problem : Problem) → TroubledFor o problem c.nodes label true nodes'
      → DoneFor budget o c (Due problem) (steps.Did label) (record c { nodes = nodes' }) (Removing (walk_of Minor.Remove))
  troubled None problem h = h
  troubled (Some node) problem h = λ none. by_stack node.stack refl
    where
      by_stack : (stack : List ℕ) → node.stack ≡ stack
          → Moved (undo (set_problem node.serial (Some problem) c) node problem stack) (steps.Did label) (record c { nodes = nodes' }) (Removing (walk_of Minor.Remove))
      by_stack [] is = absurd (let full = rw is at h.1 in cc)
      by_stack (d ∷ ds) is = (refl, h.0, ap (λ nodes. record c { nodes = nodes }) h.2, refl)

  pub dropped : (o : Option Node) (problem : Problem) (phase : Phase) → TroubledFor o problem c.nodes label false nodes'
      → DoneFor budget o c (Due problem) (steps.Over label) (record c { nodes = nodes' }) phase
  dropped None problem phase h = h
  dropped (Some node) problem phase h = λ none. by_stack node.stack refl
    where
      by_stack : (stack : List ℕ) → node.stack ≡ stack
          → Moved (undo (set_problem node.serial (Some problem) c) node problem stack) (steps.Over label) (record c { nodes = nodes' }) phase
      by_stack [] is = (refl, h.0, ap (λ nodes. record c { nodes = nodes }) h.2)
      by_stack (d ∷ ds) is = absurd (let full = rw is at h.1 in cc)
