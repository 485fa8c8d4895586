-- The rows of what nodes hold, part by part.
use Rattle.std.proofs.Common.{◌≡◌, ℕ, zero, suc, ◌+◌, List, [], ◌∷◌, ◌++◌, Some, map, take, slice_get, refl, sym, ◌∙◌, ap, append_assoc, append-nil, arith}
use Rattle.std.proofs.lemmas.List.{map-append}
use Rattle.pnp_labels.specs.Texts.{Text}
use Rattle.resource_reqs.specs.Resources.{Res}
use Rattle.pnp_model.specs.Records.{Node}
use Rattle.pnp_model.specs.Endings.{Held, node_rows}
use Rattle.view_drawings.specs.Holdings.{held_row}

front_at : {X : Type 0} (xs : List X) (i : ℕ) (x : X) → slice_get xs i ≡ Some x → take (i + 1) xs ≡ take i xs ++ x ∷ []
front_at [] i x h = absurd (cc)
front_at (y ∷ xs) zero x h = grind arith
front_at (y ∷ xs) (suc i) x h = grind (arith, front_at xs i x)

node_rows-append : (ns ms : List Node) → node_rows (ns ++ ms) ≡ node_rows ns ++ node_rows ms
node_rows-append [] ms = refl
node_rows-append (n ∷ ns) ms =
    let here : List Held = map (held_row n.serial n.path) n.holds in
    ap (λ rows. here ++ rows) (node_rows-append ns ms) ∙ sym (append_assoc here (node_rows ns) (node_rows ms))

node_rows-one : (n : Node) → node_rows (n ∷ []) ≡ map (held_row n.serial n.path) n.holds
node_rows-one n = append-nil (map (held_row n.serial n.path) n.holds)

-- a resource more of a device
pub held_step : (serial : ℕ) (path words : Text) (held : List Res) (at : ℕ) (res : Res) (before rows after : List Held)
    → slice_get held at ≡ Some res → words ≡ path → rows ≡ before ++ map (held_row serial path) (take at held)
    → after ≡ rows ++ held_row serial words res ∷ [] → after ≡ before ++ map (held_row serial path) (take (at + 1) held)
held_step serial path words held at res before rows after read same so_far pushed =
    pushed
    ∙ ap (λ t. rows ++ held_row serial t res ∷ []) same
    ∙ ap (λ l. l ++ held_row serial path res ∷ []) so_far
    ∙ append_assoc before (map (held_row serial path) (take at held)) (held_row serial path res ∷ [])
    ∙ ap (λ l. before ++ l)
    (sym (ap (λ l. map (held_row serial path) l) (front_at held at res read) ∙ map-append (held_row serial path) (take at held) (res ∷ [])))

-- a device more
pub node_step : (nodes : List Node) (at : ℕ) (n : Node) (before rows after : List Held)
    → slice_get nodes at ≡ Some n → rows ≡ before ++ node_rows (take at nodes)
    → after ≡ rows ++ map (held_row n.serial n.path) n.holds → after ≡ before ++ node_rows (take (at + 1) nodes)
node_step nodes at n before rows after read so_far added =
    added
    ∙ ap (λ l. l ++ map (held_row n.serial n.path) n.holds) so_far
    ∙ append_assoc before (node_rows (take at nodes)) (map (held_row n.serial n.path) n.holds)
    ∙ ap (λ l. before ++ l)
    (sym (ap node_rows (front_at nodes at n read) ∙ node_rows-append (take at nodes) (n ∷ [])
    ∙ ap (λ l. node_rows (take at nodes) ++ l) (node_rows-one n)))
