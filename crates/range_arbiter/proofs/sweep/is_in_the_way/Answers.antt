use Rattle.std.proofs.Common.{◌≡◌, ◌≤◌, ◌&&◌, sym, ◌∙◌, ap, subst, arith}
use Rattle.resource_reqs.specs.Resources.{IsWant, Res, Want}
use Rattle.range_arbiter.proofs.Sweeping.{clash_unshared}
use Rattle.range_arbiter.proofs.sweep.is_in_the_way.Goals as goal
use Rattle.range_arbiter.proofs.sweep.is_in_the_way.Goals.{then-other, else-other}

pub returns : goal.returns
returns c =
    let is : IsWant c.args.want.now = subst IsWant c.want.view_is c.want.invariant in
    let own : c.other.inside.shared ≡ c.args.other.now.shared = ap (λ (r : Res). r.shared) c.other.view_is in
    let asked : c.want.inside.shared ≡ c.args.want.now.shared = ap (λ (w : Want). w.shared) c.want.view_is in
    let lo : c.other.inside.lo ≡ c.args.other.now.lo = ap (λ (r : Res). r.lo) c.other.view_is in
    let hi : c.other.inside.hi ≡ c.args.other.now.hi = ap (λ (r : Res). r.hi) c.other.view_is in
    let both : c.if-other.result ≡ (c.args.other.now.shared && c.args.want.now.shared) = elim c.if-other.branch [
      | then-other w ↦ w.result-is ∙ asked ∙ ap (λ b. b && c.args.want.now.shared) (sym (sym own ∙ w.if-other.true))
      | else-other w ↦ w.result-is ∙ w.if-other.false ∙ ap (λ b. b && c.args.want.now.shared) (sym (sym own ∙ w.if-other.false))
    ] in
    let ordered : c.args.other.now.lo ≤ c.args.other.now.hi = (let up = c.other.invariant in omega arith) in
    let within : c.args.place ≤ c.args.other.now.hi = (let reaches = c.if-other-place.false in omega arith) in
    clash_unshared c.args.other.now c.args.want.now c.args.place c.if-other.result both is c.requires.kind ordered c.requires.near within
