use Rattle.std.proofs.Common.{◌∙◌, ap, sym, is_some}
use Rattle.bridge_windows.proofs.Finding.{any_window, told, untold, short}
use Rattle.bridge_windows.proofs.bridges.Bridges.set.Goals as goal

pub returns-then-is_some-clause-same_window : goal.returns-then-is_some-clause-same_window
returns-then-is_some-clause-same_window c =
    rw (← c.res.view_is)
    (told _ (sym (any_window c.res.inside.kind c.args.born c.args.self.now) ∙ (ap is_some (sym c.window.ensures) ∙ (sym c.is_some.ensures ∙ c.if-is_some.true))))

pub returns-in-Ok-clause-same_window : goal.returns-in-Ok-clause-same_window
returns-in-Ok-clause-same_window c =
    rw (← c.res.view_is)
    (untold _ (sym (any_window c.res.inside.kind c.args.born c.args.self.now) ∙ (ap is_some (sym c.window.ensures) ∙ (sym c.is_some.ensures ∙ c.if-is_some.false))))

pub returns-in-Err-clause-same_window : goal.returns-in-Err-clause-same_window
returns-in-Err-clause-same_window c =
    rw (← c.res.view_is)
    (short _ (sym (any_window c.res.inside.kind c.args.born c.args.self.now) ∙ (ap is_some (sym c.window.ensures) ∙ (sym c.is_some.ensures ∙ c.if-is_some.false))))
