use Rattle.std.proofs.Common.{◌∙◌, ap, sym}
use Rattle.pnp_model.specs.Records.{Job, course_of}
use Rattle.query_remove.specs.Parts.{is_settling}
use Rattle.query_remove.proofs.Moving.{course_is, not_settling}
use Rattle.query_remove.proofs.frame.Removal.settles.Goals as goal

pub returns-in-Settling-clause-course : goal.returns-in-Settling-clause-course
returns-in-Settling-clause-course c = ap (λ (r : Job). course_of r.kind) (sym c.self.view_is) ∙ course_is c.self.inside.ejects

pub returns-in_default : goal.returns-in_default
returns-in_default c =
    record {
      settles = not_settling c.self.inside.stage c.in_default.not-Settling ∙ ap (λ (r : Job). is_settling r.stage) c.self.view_is;
      course = ap (λ (r : Job). course_of r.kind) (sym c.self.view_is) ∙ course_is c.self.inside.ejects;
    }
