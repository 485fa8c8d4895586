use Rattle.std.proofs.Common.{ℕ, ◌-◌, ◌∙◌, take, ap, sym, subst}
use Rattle.pnp_labels.specs.Texts.{Text}
use Rattle.front_hint.specs.Spots.{IsMove, Leads, AllowsBy, place}
use Rattle.front_hint.specs.declared.spot.Move.{Move}
use Rattle.front_hint.proofs.Walking.{without_feed}
use Rattle.front_hint.proofs.allowed.next_line.Goals as goal

pub returns-in-Nothing : goal.returns-in-Nothing
returns-in-Nothing c = λ told of. subst (λ (m : Move). IsMove c.args.answer told (place c.args.spot) m) c.in-Nothing.is (c.in_ok-move_on.ensures told of)

pub returns-in-Line : goal.returns-in-Line
returns-in-Line c = λ told of.
    let leads : Leads c.args.answer told (place c.args.spot) c.in-Line.line.items c.in-Line.spot =
    subst (λ (m : Move). IsMove c.args.answer told (place c.args.spot) m) c.in-Line.is (c.in_ok-move_on.ensures told of)
    in (
      place c.in-Line.spot,
      subst (λ (t : Text). AllowsBy c.args.answer told (place c.args.spot) t (place c.in-Line.spot)) (sym (c.pop.ensures.rest ∙ ap (λ (n : ℕ). take (n - 1) c.in-Line.line.items) c.in-Line.line.ok.0 ∙ without_feed c.in-Line.line.items leads.text leads.is))
          leads.allows,
    )
