-- The drivers of a choice, by their numbers.
use Rattle.std.proofs.Common.{◌≡◌, ℕ, ◌+◌, true, false, List, Option, Some, None, refl, ap, ◌∙◌, length, nat_le}
use Rattle.pnp_labels.specs.Texts.{Text}
use Rattle.pnp_labels.specs.declared.states.Problem.{Problem}
use Rattle.pnp_model.specs.Books.{driver_named}
use Rattle.pnp_model.specs.Records.{Driver, Node, State}
use Rattle.pnp_model.specs.Tasks.{begin_trouble, install_named, install_few, install_service, numbered}
use Rattle.driver_rank.specs.declared.choice.Choice.{Choice}
use Rattle.start_sequence.specs.Begins.{between, AppendedBy, AppendedLine, ChosenBy, choice_of}
use Rattle.start_sequence.specs.declared.begin.Chosen.TheVariants.{Trouble}

module _ (rack : List Driver) (choice : Choice) (service : Text) (named : choice.service ≡ Some service) (few : nat_le (length choice.lower + 1 + length choice.upper) 16 ≡ true) where
  installed : (s : State) (node : Node) → s.core.rack ≡ rack
      → install_service s node (choice_of choice) choice.service
      ≡ install_named s node choice.rank (numbered rack choice.lower) (driver_named service rack) (numbered rack choice.upper)
  installed s node is =
      ap (install_service s node (choice_of choice)) named
      ∙ (ap (install_few s node (choice_of choice) service) few
      ∙ ap (λ r. install_named s node choice.rank (numbered r choice.lower) (driver_named service r) (numbered r choice.upper)) is)

  -- where one has no namesake in the rack
  pub chosen_none : (old new : List ℕ) → AppendedLine (numbered rack choice.lower) (driver_named service rack) (numbered rack choice.upper) None old new → ChosenBy rack choice (Trouble Problem.LoadFailed)
  chosen_none old new a s node is = installed s node is ∙ by_parts (numbered rack choice.lower) (driver_named service rack) (numbered rack choice.upper) a
    where
      by_parts : (lower : Option (List ℕ)) (driver : Option ℕ) (upper : Option (List ℕ)) → AppendedBy (between lower driver upper) false old new
          → install_named s node choice.rank lower driver upper ≡ begin_trouble s node Problem.LoadFailed
      by_parts None driver upper all = refl
      by_parts (Some lower) None upper all = refl
      by_parts (Some lower) (Some driver) None all = refl
      by_parts (Some lower) (Some driver) (Some upper) all = absurd all
