use Rattle.std.proofs.Common.{◌≡◌, ◌∙◌, ap, sym, subst}
use Rattle.pnp_model.specs.Records as Records
use Rattle.pnp_model.specs.Records.{Course, Job, course_of}
use Rattle.surprise_remove.specs.Stages.{stage_of}
use Rattle.surprise_remove.specs.Steps.{DirectSays}
use Rattle.surprise_remove.proofs.frame.Surprise.request.Goals as goal

pub next_removal-requires : goal.next_removal-requires
next_removal-requires c =
    let course : course_of c.args.self.now.kind ≡ Course.Surprising = ap (λ (r : Job). course_of r.kind) (sym c.self.view_is) in
    let stage : c.args.self.now.stage ≡ Records.Stage.Next = ap (λ (r : Job). r.stage) (sym c.self.view_is) ∙ ap stage_of c.in-Next.is in
    subst (λ (x : Records.Stage). DirectSays c.args.tree.now.nodes c.args.relations.now c.args.self.now x) stage (c.requires course)
