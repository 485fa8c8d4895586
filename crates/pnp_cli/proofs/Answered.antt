-- Where no count rose, the answer is one that the contents decide, or want of memory: no other answer is left.
use Rattle.std.proofs.Common.{◌≡◌, inl, inr, ℕ, true, List, Option, Some, None, IfSome, refl}
use Rattle.pnp_labels.specs.Texts.{Text}
use Rattle.pnp_model.specs.Records.{Driver}
use Rattle.pnp_cli.specs.Infs.{SomeRose}
use Rattle.pnp_cli.specs.Runs.{Answers, Decides, is_decided, named, told_to}
use Rattle.pnp_cli.specs.declared.parts.Settings.{Settings}
use Rattle.pnp_cli.specs.declared.status.Status.{Status}

answers : (decides : Status → Type 0) (read_rose write_rose : Type 0) (status : Status) → (status ≡ Status.BadWords → ⊥) → (is_decided status ≡ true → decides status)
    → (status ≡ Status.ReadFault → read_rose) → (status ≡ Status.WriteFault → write_rose) → Answers decides read_rose write_rose status
answers decides read_rose write_rose Status.Done bad decided reads writes = λ read write. inl (decided refl)
answers decides read_rose write_rose Status.BadScript bad decided reads writes = λ read write. inl (decided refl)
answers decides read_rose write_rose Status.BadWords bad decided reads writes = absurd (bad refl)
answers decides read_rose write_rose Status.ReadFault bad decided reads writes = λ read write. absurd (read (reads refl))
answers decides read_rose write_rose Status.WriteFault bad decided reads writes = λ read write. absurd (write (writes refl))
answers decides read_rose write_rose Status.BadInf bad decided reads writes = λ read write. inl (decided refl)
answers decides read_rose write_rose Status.WantOfMemory bad decided reads writes = λ read write. inr refl
answers decides read_rose write_rose Status.TooLarge bad decided reads writes = λ read write. inl (decided refl)
answers decides read_rose write_rose Status.NotARun bad decided reads writes = λ read write. inl (decided refl)

-- of settings and the contents that files tell
answered_of : (s : Settings) (contents : Option (Text → Option (List ℕ))) (rack : List Driver) (old new : Text → ℕ) (write_rose : Type 0) (status : Status)
    → (status ≡ Status.BadWords → ⊥) → (is_decided status ≡ true → IfSome contents (λ told. Decides rack told s status))
    → (status ≡ Status.ReadFault → SomeRose old new (named s)) → (status ≡ Status.WriteFault → write_rose)
    → IfSome contents (λ told. Answers (Decides rack told s) (SomeRose old new (named s)) write_rose status)
answered_of s None rack old new write_rose status bad decided reads writes = tt
answered_of s (Some told) rack old new write_rose status bad decided reads writes = answers (Decides rack told s) (SomeRose old new (named s)) write_rose status bad decided reads writes

-- of the settings of words
pub all_answered : (o : Option Settings) (contents : Option (Text → Option (List ℕ))) (rack : List Driver) (old new : Text → ℕ) (write_rose : Type 0) (status : Status)
    → (status ≡ Status.BadWords → o ≡ None) → (is_decided status ≡ true → IfSome o (λ s. IfSome (told_to s.script contents) (λ told. Decides rack told s status)))
    → (status ≡ Status.ReadFault → IfSome o (λ s. SomeRose old new (named s))) → (status ≡ Status.WriteFault → write_rose)
    → IfSome o (λ s. IfSome (told_to s.script contents) (λ told. Answers (Decides rack told s) (SomeRose old new (named s)) write_rose status))
all_answered None contents rack old new write_rose status bad decided reads writes = tt
all_answered (Some s) contents rack old new write_rose status bad decided reads writes =
    answered_of s (told_to s.script contents) rack old new write_rose status (λ is. some (bad is)) decided reads writes
  where
    some : Some s ≡ None → ⊥
    some e = cc
