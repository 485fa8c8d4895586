-- Trees: nodes that are above no later one may be left out.
use Rattle.std.proofs.Common.{◌≡◌, ℕ, ◌<◌, ◌≤◌, cond, nat_lt, List, [], ◌∷◌, ◌++◌, map, reverse, refl, sym, ap, ◌∙◌, ⊎_elim, Option, Some, None}
use Rattle.std.proofs.lemmas.Bool.{cases_lt}
use Rattle.std.proofs.lemmas.List.{map-append, reverse-append}
use Rattle.ending_tally.specs.Plain.{Node, node_of, parent_of, form_of, tree_forms, line_form, with_node}
use Rattle.ending_tally.specs.Nodes.{seen, above_of}
use Rattle.ending_tally.specs.declared.plain.Node as kept
use Rattle.ending_tally.proofs.Marks.{nat_lt_is, nat_lt_not}

-- the forms of lines depend on the parents of nodes below, of each depth, alone
pub same_forms : (lines : List (List ℕ)) (a b : List Node) → ((depth : ℕ) → parent_of depth a ≡ parent_of depth b) → tree_forms a lines ≡ tree_forms b lines
same_forms [] a b h = refl
same_forms (line ∷ lines) a b h = by_node (same_forms lines) (node_of line)
  where
    by_node : ((a b : List Node) → ((depth : ℕ) → parent_of depth a ≡ parent_of depth b) → tree_forms a lines ≡ tree_forms b lines) → (o : Option Node) → line_form a line o ∷ tree_forms (with_node o a) lines ≡ line_form b line o ∷ tree_forms (with_node o b) lines
    by_node rest None = ap (λ l. line ∷ l) (rest a b h)
    by_node rest (Some node) = λ i. form_of node (h node.depth i) ∷ rest (node ∷ a) (node ∷ b) (λ d. ap (cond (nat_lt node.depth d) (Some node.path)) (h d)) i

-- a node that is as deep is no parent
pub parent_passed : (node : Node) (above : List Node) (depth : ℕ) → depth ≤ node.depth → parent_of depth (node ∷ above) ≡ parent_of depth above
parent_passed node above depth h = ap (λ b. cond b (Some node.path) (parent_of depth above)) (nat_lt_not node.depth depth h)

pub parent_found : (node : Node) (above : List Node) (depth : ℕ) → node.depth < depth → parent_of depth (node ∷ above) ≡ Some node.path
parent_found node above depth h = ap (λ b. cond b (Some node.path) (parent_of depth above)) (nat_lt_is node.depth depth h)

-- under a node, what is as deep as it or deeper, and was above it, is the parent of none
pub same_below : (node : Node) (a b : List Node) → ((depth : ℕ) → depth ≤ node.depth → parent_of depth b ≡ parent_of depth a) → (depth : ℕ) → parent_of depth (node ∷ b) ≡ parent_of depth (node ∷ a)
same_below node a b h depth =
    ⊎_elim
    (λ (l : node.depth < depth). parent_found node b depth l ∙ sym (parent_found node a depth l))
    (λ (l : depth ≤ node.depth). parent_passed node b depth l ∙ h depth l ∙ sym (parent_passed node a depth l))
    (cases_lt node.depth depth)

-- the nearest node is the last that is kept
pub above_more : (nodes : List kept.Node) (node : kept.Node) → above_of (nodes ++ node ∷ []) ≡ seen node ∷ above_of nodes
above_more nodes node = ap (λ (l : List Node). reverse l) (map-append seen nodes (node ∷ [])) ∙ reverse-append (map seen nodes) (seen node ∷ [])

-- a line of a node is done: its form, and the nodes above the next
pub form_taken : (above : List Node) (line form : List ℕ) (node : kept.Node) (parent : Option (List ℕ)) (o : Option Node) → form ≡ form_of (seen node) parent → parent ≡ parent_of node.depth above → o ≡ Some (seen node) → form ≡ line_form above line o
form_taken above line form node parent o made under is = made ∙ ap (form_of (seen node)) under ∙ ap (line_form above line) (sym is)

pub above_taken : (before after : List kept.Node) (node : kept.Node) (o : Option Node) → o ≡ Some (seen node)
    → ((other : ℕ) → other ≤ node.depth → parent_of other (above_of after) ≡ parent_of other (above_of before))
    → (depth : ℕ) → parent_of depth (above_of (after ++ node ∷ [])) ≡ parent_of depth (with_node o (above_of before))
above_taken before after node o is others depth =
    ap (parent_of depth) (above_more after node)
    ∙ same_below (seen node) (above_of before) (above_of after) others depth
    ∙ ap (λ p. parent_of depth (with_node p (above_of before))) (sym is)
