-- The start of a device under other words.
use Rattle.std.proofs.Common.{ℕ, ◌≡◌, Bool, true, false, List, [], ◌∷◌, length, Some, refl, ap, ap₂, ◌∙◌}
use mathlib.Core.Path.{fun_ext}
use Rattle.resource_reqs.specs.Resources.{Res}
use Rattle.resource_reqs.specs.Spelling.Answer.{assignment, no_fit, spent}
use Rattle.pnp_labels.specs.Texts.{Text}
use Rattle.pnp_labels.specs.declared.label.Label.{Label}
use Rattle.pnp_labels.specs.declared.states.Problem.{Problem}
use Rattle.pnp_labels.specs.declared.words.Answer.{Answer}
use Rattle.pnp_labels.specs.declared.words.Answer.TheVariants.{Ok, Fail, Pend}
use Rattle.pnp_labels.specs.declared.words.AskWhat.{AskWhat}
use Rattle.pnp_labels.specs.declared.words.Minor.{Minor}
use Rattle.pnp_model.specs.Books.{rack_reply}
use Rattle.pnp_model.specs.Cores.{set_rack, set_stack, stacked}
use Rattle.pnp_model.specs.Frames.{core_after, state_label}
use Rattle.pnp_model.specs.Records.{Core, Driver, Found, Node, Phase, SearchProblem, Walk, doing_map}
use Rattle.pnp_model.specs.Records.Doing.{Does, Searches}
use Rattle.pnp_model.specs.Records.Phase.{Adding, Searching, Starting, Removing, Due}
use Rattle.pnp_model.specs.Starts as starts
use Rattle.pnp_model.specs.Starts.{StartBeside, StartMove, act, add_driver, adding, goes, own_problem, parts}
use Rattle.pnp_model.specs.Walks.{has_ended, is_bad}
use Rattle.pnp_pairs.specs.Renamed as renamed
use Rattle.pnp_pairs.specs.Renamed.{Renaming}
use Rattle.pnp_pairs.proofs.Asks.{ask_same, changed_same, ended_same, name_same, rack_after_same, rack_reply_same}
use Rattle.pnp_pairs.proofs.Trees.{fixed_same}

-- a move of a start under the new words
abbrev pub start_move : Renaming → StartMove → StartMove
start_move r m = record { label = renamed.label r m.label; core = renamed.core r m.core; frame = m.frame; beside = m.beside }

module _ (r : Renaming) where
  added : (c : Core) (n : Node) (d : ℕ) (ds : List ℕ) (answer : Answer) → add_driver (renamed.core r c) (renamed.node r n) d ds answer ≡ start_move r (add_driver c n d ds answer)
  added c n d ds Ok =
      ap₂ (λ (name : Text) (x : Core). goes (Label.Add (r.path n.path) name true) x (adding ds)) (name_same r c.rack d)
      (changed_same r n.serial _ _ c (λ m. refl))
  added c n d ds Fail = ap (λ (name : Text). goes (Label.Add (r.path n.path) name false) (renamed.core r c) (Due Problem.FailedAdd)) (name_same r c.rack d)
  added c n d ds Pend = ap (λ (name : Text). goes (Label.Add (r.path n.path) name false) (renamed.core r c) (Due Problem.FailedAdd)) (name_same r c.rack d)

  add_same : (c : Core) (n : Node) (d : ℕ) (ds : List ℕ)
      → add_driver (core_after (renamed.core r c) AskWhat.Add (r.path n.path) d) (renamed.node r n) d ds (rack_reply AskWhat.Add (r.path n.path) (renamed.rack r c.rack) d)
      ≡ start_move r (add_driver (core_after c AskWhat.Add n.path d) n d ds (rack_reply AskWhat.Add n.path c.rack d))
  add_same c n d ds =
      ap₂ (λ (rack : List Driver) (a : Answer). add_driver (set_rack rack (renamed.core r c)) (renamed.node r n) d ds a) (rack_after_same r AskWhat.Add n.path c.rack d)
      (rack_reply_same r AskWhat.Add n.path c.rack d)
      ∙ added (core_after c AskWhat.Add n.path d) n d ds (rack_reply AskWhat.Add n.path c.rack d)

  searched_same : (c : Core) (n : Node) (found : Found) → starts.searched (renamed.core r c) (renamed.node r n) found ≡ start_move r (starts.searched c n found)
  searched_same c n (assignment plan) =
      ap (λ (x : Core). goes (Label.Assign (r.path n.path) (starts.own_part plan)) x (Starting (Rattle.pnp_model.specs.Walks.walk_of Minor.Start))) (changed_same r n.serial _ _ c (λ m. refl))
  searched_same c n no_fit = refl
  searched_same c n spent = refl

  problem_same : (c : Core) (n : Node) → own_problem (renamed.core r c) (renamed.node r n) ≡ own_problem c n
  problem_same c n = ap (λ (fixed : List Res). record { fixed = fixed; movers = n.reqs ∷ [] }) (fixed_same r c (n.serial ∷ []))

  searches_same : (c : Core) (n : Node) → Searches (own_problem (renamed.core r c) (renamed.node r n)) (starts.searched (renamed.core r c) (renamed.node r n)) ≡ doing_map (start_move r) (Searches (own_problem c n) (starts.searched c n))
  searches_same c n =
      ap₂ (λ (problem : SearchProblem) (by_answer : Found → StartMove). Searches problem by_answer) (problem_same c n) (fun_ext (λ found. searched_same c n found))

  end_same : (c : Core) (n : Node) (bad : Bool) → starts.end_start (renamed.core r c) (renamed.node r n) bad ≡ start_move r (starts.end_start c n bad)
  end_same c n true = ap (λ (x : Core). goes (state_label (renamed.node r n) Minor.Start true) x (Due Problem.FailedStart)) (ended_same r c n Minor.Start true)
  end_same c n false = ap (λ (x : Core). parts (state_label (renamed.node r n) Minor.Start false) x Searching StartBeside.Up) (ended_same r c n Minor.Start false)

  start_on_same : (c : Core) (n : Node) (w : Walk) (over : Bool) → starts.start_on (renamed.core r c) (renamed.node r n) w over ≡ start_move r (starts.start_on c n w over)
  start_on_same c n w true = end_same c n (is_bad w)
  start_on_same c n w false = ap (starts.asks Starting) (ask_same r c n w)

  remove_on_same : (c : Core) (n : Node) (w : Walk) (over : Bool) → starts.remove_on (renamed.core r c) (renamed.node r n) w over ≡ start_move r (starts.remove_on c n w over)
  remove_on_same c n w true = ap (λ (x : Core). parts (state_label (renamed.node r n) Minor.Remove false) x Searching StartBeside.Over) (ended_same r c n Minor.Remove false)
  remove_on_same c n w false = ap (starts.asks Removing) (ask_same r c n w)

  undo_same : (c : Core) (n : Node) (problem : Problem) (stack : List ℕ) → starts.undo (renamed.core r c) (renamed.node r n) problem stack ≡ start_move r (starts.undo c n problem stack)
  undo_same c n problem [] = refl
  undo_same c n problem (d ∷ ds) = refl

  pub act_same : (c : Core) (n : Node) (phase : Phase) → act (renamed.core r c) (renamed.node r n) phase ≡ doing_map (start_move r) (act c n phase)
  act_same c n (Adding []) = searches_same c n
  act_same c n (Adding (d ∷ ds)) = ap (λ (m : StartMove). Does m) (add_same c n d ds)
  act_same c n Searching = searches_same c n
  act_same c n (Starting w) = ap (λ (m : StartMove). Does m) (start_on_same c n w (has_ended w (length n.stack)))
  act_same c n (Removing w) = ap (λ (m : StartMove). Does m) (remove_on_same c n w (has_ended w (length n.stack)))
  act_same c n (Due problem) =
      ap (λ (x : Core). Does (starts.undo x (renamed.node r n) problem n.stack)) (changed_same r n.serial _ _ c (λ m. refl))
      ∙ ap (λ (m : StartMove). Does m) (undo_same (Rattle.pnp_model.specs.Cores.set_problem n.serial (Some problem) c) n problem n.stack)
