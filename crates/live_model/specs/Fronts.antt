-- That a live run came to its end; and how far one came that was given up.
use Rattle.std.specs.Prelude.{◌≡◌, ◌⊎◌, Option, option_map}
use Rattle.live_io.specs.Turns.{Past, with_said}
use Rattle.pnp_labels.specs.Texts.{Text}
use Rattle.pnp_model.specs.Records.{Settings}
use Rattle.live_model.specs.Lives.{Lives}
use Rattle.live_model.specs.Outputs.{Acts, Ended, Greets, Leads, LiveRun, Place, Stand, Told, stand_of, turned, with_more}

-- of what a live run says and hears this was said, and so it was heard, up to its end
pub record HasLived (lives : Lives) (settings : Settings) (first : Stand) (ended : Ended) (past : Option Past) (taken : Option Text) : Type 0 where
  pub run : LiveRun lives settings first ended
  pub heard : run.last.told.past ≡ past
  pub said : run.last.told.taken ≡ taken

-- Of what was to be said a front was said; or all of it, and then a line was heard.
pub data IsFront (t : Told) (past : Option Past) (taken : Option Text) : Type 0 where
  front : (more rest : Text) → t.past ≡ option_map (with_said more) past → t.taken ≡ option_map (with_more rest) taken → IsFront t past taken
  heard : (line : Option Text) → past ≡ option_map (turned line) t.past → taken ≡ t.taken → IsFront t past taken

-- what was said is a front of what is said up to some place of a live run
pub record HasBegun (lives : Lives) (settings : Settings) (first : Place) (past : Option Past) (taken : Option Text) : Type 0 where
  pub there : Place
  pub leads : Leads lives settings first there
  pub front : IsFront (stand_of there).told past taken

-- the same before the run begins
pub record GreetsFront (t : Told) (past : Option Past) (taken : Option Text) : Type 0 where
  pub there : Told
  pub comes : (there ≡ t) ⊎ ((ended : Option Ended) × Greets t ended there)
  pub front : IsFront there past taken
