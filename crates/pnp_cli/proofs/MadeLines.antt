-- Parts of a line, and line after line.
use Rattle.std.proofs.Common.{◌≡◌, ℕ, ◌+◌, ◌≤◌, length, List, ◌++◌, lit≤, subst, sym, ◌∙◌, ap, append_assoc}
use Rattle.std.proofs.Math.Numerals.{add-one}
use Rattle.pnp_cli.specs.Generated.{head, device_line, device_lines, gen_inf}

-- five parts that were appended one after another
pub five_parts : (o a d s n e o1 o2 o3 o4 o5 : List ℕ) → o1 ≡ o ++ a → o2 ≡ o1 ++ d → o3 ≡ o2 ++ s → o4 ≡ o3 ++ n → o5 ≡ o4 ++ e → o5 ≡ o ++ ((((a ++ d) ++ s) ++ n) ++ e)
five_parts o a d s n e o1 o2 o3 o4 o5 h1 h2 h3 h4 h5 =
    h5
    ∙ ap (λ (x : List ℕ). x ++ e)
    (h4 ∙ ap (λ (x : List ℕ). x ++ n) (h3 ∙ ap (λ (x : List ℕ). x ++ s) (h2 ∙ ap (λ (x : List ℕ). x ++ d) h1 ∙ append_assoc o a d) ∙ append_assoc o (a ++ d) s) ∙ append_assoc o ((a ++ d) ++ s) n)
    ∙ append_assoc o (((a ++ d) ++ s) ++ n) e

pub next_line : (k : ℕ) (old new : List ℕ) → old ≡ head ++ device_lines k → new ≡ old ++ device_line (k + 1) → new ≡ head ++ device_lines (k + 1)
next_line k old new before is =
    is ∙ ap (λ (x : List ℕ). x ++ device_line (k + 1)) before ∙ append_assoc head (device_lines k) (device_line (k + 1))
    ∙ ap (λ (x : ℕ). head ++ (device_lines k ++ device_line x)) (add-one k) ∙ ap (λ (x : ℕ). head ++ device_lines x) (sym (add-one k))

-- the generated INF is no longer than an INF may be
inf_is_short : length gen_inf ≤ 16777216
unfolding gen_inf
inf_is_short = lit≤ tt

pub short_inf : (bytes : List ℕ) → bytes ≡ gen_inf → length bytes ≤ 16777216
short_inf bytes is = subst (λ (x : List ℕ). length x ≤ 16777216) (sym is) inf_is_short
