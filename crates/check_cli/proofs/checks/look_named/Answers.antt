use Rattle.std.proofs.Common.{ℕ, ◌≡◌, ◌∙◌, List, Option, All, Vec, Global, sym, subst}
use Rattle.pnp_io.specs.Outside.{Holds}
use Rattle.check_cli.specs.Checks.{IsLookedOf, SaysNamed, texts}
use Rattle.check_cli.specs.declared.status.Status.{Status}
use Rattle.trace_hint.specs.Hints.{IsInf}
use Rattle.check_cli.proofs.Saying.{says_named, looked_of}
use Rattle.check_cli.proofs.checks.look_named.Goals as goal

pub look_over-requires-clause-accepted : goal.look_over-requires-clause-accepted
look_over-requires-clause-accepted g c =
    subst (λ (l : List (Vec ℕ Global)). All (λ bytes. IsInf bytes.items) l) (sym c.deref-2.ensures.value) c.in_ok-infs.ensures.accepted

pub returns-clause-says : goal.returns-clause-says
returns-clause-says g c =
    let is : IsLookedOf c.in_ok-infs.infs.items c.in_ok-trace.trace.items c.in_ok-script.script.items c.args.budget c.in_ok-seen.seen =
    looked_of c.in_ok-infs.infs.items c.deref-2.result.now c.in_ok-script.script.items c.deref.result.now c.in_ok-trace.trace.items c.deref-4.result.now c.deref-3.result.now c.args.budget c.in_ok-seen.seen
    c.deref-2.ensures.value c.deref.ensures.value c.deref-4.ensures.value (c.deref-3.ensures.value ∙ c.in_ok-kinds.ensures.kinds) c.in_ok-seen.ensures
    in
    let same : g.F.Files.contents c.read_file.new.files ≡ g.F.Files.contents c.args.files.now = c.in_ok-trace.ensures.same ∙ c.in_ok-infs.ensures.same in
    subst (λ (s : Status). SaysNamed (g.F.Files.contents c.args.files.now) c.args.trace_name.now c.args.script_name.now (texts c.args.inf_names.now) c.args.budget s) (sym c.status_of-status.ensures)
    (says_named (g.F.Files.contents c.args.files.now) c.args.trace_name.now c.args.script_name.now (texts c.args.inf_names.now) c.in_ok-infs.infs.items c.in_ok-trace.trace.items
    c.in_ok-script.script.items c.args.budget c.in_ok-seen.seen c.in_ok-infs.ensures.hold
    (subst (λ (o : Option (List ℕ → Option (List ℕ))). Holds o c.args.trace_name.now c.in_ok-trace.trace.items) c.in_ok-infs.ensures.same c.in_ok-trace.ensures.holds)
    (subst (λ (o : Option (List ℕ → Option (List ℕ))). Holds o c.args.script_name.now c.in_ok-script.script.items) same c.in_ok-script.ensures.holds) is)
