-- What all operations share: the request that is on its way, the devices that get one after another the same, and the end.
use Rattle.std.specs.Prelude.{ℕ, List, [], ◌∷◌, Option, Some, None, length, option_map, if◌then◌else◌}
use Rattle.resource_reqs.specs.Spelling.Answer.{no_fit}
use Rattle.pnp_model.specs.Walks.{walk_of, is_bad, has_ended}
use Rattle.pnp_model.specs.Frames.{Move, Ask, asked, state_label, ended}
use Rattle.pnp_model.specs.Records.{Node, Core, Walk, Job, Stage}
use Rattle.pnp_labels.specs.Texts.{Text}
use Rattle.pnp_labels.specs.declared.words.Minor.{Minor}
use Rattle.pnp_labels.specs.declared.label.Label.{Label}
use Rattle.pnp_labels.specs.declared.label.OpKind.{OpKind}
use Rattle.pnp_labels.specs.declared.label.OpEnd.{OpEnd}

-- what the machine has to do beside a step: nothing; relist where a node left; the path joins the disabled list; the device
-- was ejected and its node left; the surprise task of a device goes to the head; the operation closes, and its target has no
-- activity, one before its START walk, or one before its REMOVE walk
pub data Beside : Type 0 where
  On : Beside
  Left : (path : Text) (born : ℕ) → Beside
  Disabled : (path : Text) → Beside
  Ejected : (path : Text) (born : ℕ) → Beside
  FailedRestart : (serial : ℕ) → Beside
  Over : Beside
  OverStart : Beside
  OverUndo : Beside

abbrev pub JobMove : Type 0
JobMove = Move Job Beside

abbrev pub moves : Label → Core → Job → JobMove
moves label c j = record { label = label; core = c; frame = j; beside = Beside.On }

-- nobody was asked or told yet
abbrev pub job_of : OpKind → Node → Job
job_of kind node =
    record {
      kind = kind;
      target = node.serial;
      path = node.path;
      wanted = None;
      set = [];
      ejecting = [];
      told = [];
      todo = [];
      agreed = [];
      refused = [];
      behind = [];
      found = no_fit;
      stage = Stage.Next;
      walk = None;
    }

-- no request is on its way
abbrev pub stands : Job → List ℕ → Stage → Job
stands j todo stage = record j { todo = todo; stage = stage; walk = None }

-- a request begins for the first of these
abbrev pub begins : Job → List ℕ → Stage → Minor → Job
begins j todo stage minor = record j { todo = todo; stage = stage; walk = Some (walk_of minor) }

-- each of these gets a request, and then the operation stands so
abbrev pub each_gets : Minor → Stage → Job → List ℕ → Job → Job
each_gets minor stage j [] over = over
each_gets minor stage j (k ∷ ks) over = begins j (k ∷ ks) stage minor

-- the next driver is asked
abbrev pub asks : Job → Ask → JobMove
asks j ask = moves ask.label ask.core (record j { walk = Some ask.walk })

-- the request has ended
abbrev pub ends : Core → Node → Walk → Job → JobMove
ends c node w next = moves (state_label node w.minor (is_bad w)) (ended c node w.minor (is_bad w)) next

-- a request that is on its way: the next driver is asked, or it has ended, and then the operation stands so
abbrev pub walks : Core → Job → Node → Walk → Option Job → Option JobMove
walks c j node w next =
    if has_ended w (length node.stack) then option_map (ends c node w) next else Some (asks j (asked c node w))

abbrev pub closes : Core → Job → OpEnd → Beside → JobMove
closes c j result beside = record { label = Label.End j.kind j.path result; core = c; frame = j; beside = beside }
