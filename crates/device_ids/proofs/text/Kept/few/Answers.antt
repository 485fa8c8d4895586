use Rattle.std.proofs.Common.{refl, ap, take, ◌∙◌}
use Rattle.std.proofs.lemmas.List.{take-map}
use Rattle.std.specs.Char.{to_ascii_lowercase}
use Rattle.device_ids.proofs.text.Kept.few.Goals as goal

pub returns : goal.returns
returns c = (
  record {
    inside = c.requires;
    folded = ap (take c.args.len) c.make_ascii_lowercase.ensures.after ∙ take-map to_ascii_lowercase c.args.len c.args.text;
  },
  refl,
)
