-- The families of parts, as parts are added.
use Rattle.std.proofs.Common.{◌≡◌, refl, sym, ◌∙◌, ap, ap₂, subst, ℕ, suc, ◌+◌, ◌<◌, ◌≤◌, inl, inr, arith, length, length-append, get_or, List, [], ◌∷◌, ◌++◌}
use Rattle.std.proofs.lemmas.Bool.{cases_lt}
use Rattle.std.proofs.lemmas.List.{get_or_append_left, get_or_push}
use Rattle.script_family.specs.declared.part.Node.{Node}
use Rattle.script_family.specs.declared.part.Node.TheVariants as nodes
use Rattle.script_family.specs.declared.part.Part.{Part}
use Rattle.script_family.specs.Families.{Family, Silent, Followed, Chosen, Woven, most}
use Rattle.script_family.specs.Counts.{count}
use Rattle.script_family.specs.Steps.{Shapes, shape}
use Rattle.script_family.proofs.Rows.{none_above}
use Rattle.script_family.specs.Parts.{family_of, grown, families, NamesBefore, HasRows, IsRow, IsPart, IsParts}

pub grown_push : (made : List Family) (ps : List Part) (p : Part) → grown made (ps ++ p ∷ []) ≡ grown made ps ++ family_of (grown made ps) p.node ∷ []
grown_push made [] p = refl
grown_push made (q ∷ ps) p = grown_push (made ++ family_of made q.node ∷ []) ps p

pub families_push : (ps : List Part) (p : Part) → families (ps ++ p ∷ []) ≡ families ps ++ family_of (families ps) p.node ∷ []
families_push ps p = grown_push [] ps p

length_grown : (made : List Family) (ps : List Part) → length (grown made ps) ≡ length made + length ps
length_grown made [] = omega arith
length_grown made (q ∷ ps) =
    length_grown (made ++ family_of made q.node ∷ []) ps
    ∙ ap (λ m. m + length ps) (length-append made (family_of made q.node ∷ [])) ∙ shift (length made) (length ps)
  where
    shift : (m n : ℕ) → m + 1 + n ≡ m + suc n
    shift m n = omega arith

pub length_families : (ps : List Part) → length (families ps) ≡ length ps
length_families ps = length_grown [] ps ∙ none (length ps)
  where
    none : (n : ℕ) → 0 + n ≡ n
    none n = omega arith

pub at_left : (fs gs : List Family) (i : ℕ) → i < length fs → get_or (fs ++ gs) i Silent ≡ get_or fs i Silent
at_left fs gs i lt = get_or_append_left fs gs Silent i lt

pub names_kept : (fs gs : List Family) (i : ℕ) (node : Node) → NamesBefore i node → i ≤ length fs → family_of (fs ++ gs) node ≡ family_of fs node
names_kept fs gs i nodes.Silent before le = refl
names_kept fs gs i (nodes.Line at) before le = refl
names_kept fs gs i (nodes.Followed a b) before le = ap₂ Followed (at_left fs gs a (omega (arith, before.0))) (at_left fs gs b (omega (arith, before.1)))
names_kept fs gs i (nodes.Chosen a b) before le = ap₂ Chosen (at_left fs gs a (omega (arith, before.0))) (at_left fs gs b (omega (arith, before.1)))
names_kept fs gs i (nodes.Woven a b) before le = ap₂ Woven (at_left fs gs a (omega (arith, before.0))) (at_left fs gs b (omega (arith, before.1)))

pub rows_more : (rows more lines : ℕ) (node : Node) → rows ≤ more → HasRows rows lines node → HasRows more lines node
rows_more rows more lines nodes.Silent le h = h
rows_more rows more lines (nodes.Line at) le h = h
rows_more rows more lines (nodes.Followed a b) le h = h
rows_more rows more lines (nodes.Chosen a b) le h = h
rows_more rows more lines (nodes.Woven a b) le h = omega (arith, h)

pub part_kept : (fs gs : List Family) (rows more i : ℕ) (part : Part) → i < length fs → rows ≤ more → IsPart fs rows i part → IsPart (fs ++ gs) more i part
part_kept fs gs rows more i part lt le is =
    let at : get_or (fs ++ gs) i Silent ≡ get_or fs i Silent = at_left fs gs i lt in
    record {
      names = is.names;
      same = at ∙ is.same ∙ sym (names_kept fs gs i part.node is.names (omega arith));
      row = subst (λ f. IsRow f part.least part.row.items) (sym at) is.row;
      few = subst (λ f. most f ≤ 16777216) (sym at) is.few;
      table = subst (λ f. HasRows more (most f) part.node) (sym at) (rows_more rows more (most (get_or fs i Silent)) part.node le is.table);
    }

-- a table with more rows
pub parts_rows : (fs : List Family) (rows more : ℕ) (ps : List Part) → rows ≤ more → IsParts fs rows ps → IsParts fs more ps
parts_rows fs rows more ps le all i d lt =
    let is : IsPart fs rows i (get_or ps i d) = all i d lt in
    record { names = is.names; same = is.same; row = is.row; few = is.few; table = rows_more rows more (most (get_or fs i Silent)) (get_or ps i d).node le is.table }

pub parts_push : (ps : List Part) (part : Part) (rows : ℕ) → IsParts (families ps) rows ps
    → IsPart (families ps ++ family_of (families ps) part.node ∷ []) rows (length (families ps)) part → IsParts (families (ps ++ part ∷ [])) rows (ps ++ part ∷ [])
parts_push ps part rows all one i d lt =
    let fs : List Family = families ps in
    let count : length fs ≡ length ps = length_families ps in
    subst (λ gs. IsPart gs rows i (get_or (ps ++ part ∷ []) i d)) (sym (families_push ps part))
    (elim (cases_lt i (length ps)) [
      | inl old ↦
          subst (IsPart (fs ++ family_of fs part.node ∷ []) rows i) (sym (get_or_append_left ps (part ∷ []) d i old))
          (part_kept fs (family_of fs part.node ∷ []) rows rows i (get_or ps i d) (omega (arith, count)) (omega arith) (all i d old))
      | inr new ↦
          let here : length ps ≡ i = omega (arith, length-append ps (part ∷ [])) in
          subst (IsPart (fs ++ family_of fs part.node ∷ []) rows i) (sym (get_or_push ps part d i here))
          (subst (λ m. IsPart (fs ++ family_of fs part.node ∷ []) rows m part) (count ∙ here) one)
    ])

-- the part that was read
pub part_read : (fs : List Family) (rows : ℕ) (ps : List Part) (i : ℕ) (x : Part) → IsParts fs rows ps → i < length ps → x ≡ get_or ps i x → IsPart fs rows i x
part_read fs rows ps i x all lt is = subst (IsPart fs rows i) (sym is) (all i x lt)

-- the part that was read, by what a contract sees
pub part_in : (ps : List Part) (rows : ℕ) (s : Shapes) (i : ℕ) (x : Part) → IsParts (families ps) rows ps → record { families = families ps; rows = rows } ≡ s
    → i < length s.families → x ≡ get_or ps i x → IsPart s.families s.rows i x
part_in ps rows s i x all view lt is =
    let count : length (families ps) ≡ length ps = length_families ps in
    let same : length (families ps) ≡ length s.families = ap (λ (t : Shapes). length t.families) view in
    subst (λ (t : Shapes). IsPart t.families t.rows i x) view (part_read (families ps) rows ps i x all (omega arith) is)

-- a part that is added
pub new_part : (s : Shapes) (part : Part) (f : Family) → family_of s.families part.node ≡ f → NamesBefore (length s.families) part.node → IsRow f part.least part.row.items
    → most f ≤ 16777216 → HasRows s.rows (most f) part.node → IsPart (s.families ++ f ∷ []) s.rows (length s.families) part
new_part s part f is names row few table =
    let at : get_or (s.families ++ f ∷ []) (length s.families) Silent ≡ f = get_or_push s.families f Silent (length s.families) refl in
    record {
      names = names;
      same = at ∙ sym is ∙ sym (names_kept s.families (f ∷ []) (length s.families) part.node names (omega arith));
      row = subst (λ g. IsRow g part.least part.row.items) (sym at) row;
      few = subst (λ g. most g ≤ 16777216) (sym at) few;
      table = subst (λ g. HasRows s.rows (most g) part.node) (sym at) table;
    }

-- what a part is that names two others
pub is_followed : (s : Shapes) (i a b : ℕ) (x : Part) → IsPart s.families s.rows i x → x.node ≡ nodes.Followed a b
    → (shape s i ≡ Followed (shape s a) (shape s b)) × (a < i) × (b < i)
is_followed s i a b x part node =
    let names : NamesBefore i (nodes.Followed a b) = subst (NamesBefore i) node part.names in
    (part.same ∙ ap (family_of s.families) node, names.0, names.1)

pub is_chosen : (s : Shapes) (i a b : ℕ) (x : Part) → IsPart s.families s.rows i x → x.node ≡ nodes.Chosen a b
    → (shape s i ≡ Chosen (shape s a) (shape s b)) × (a < i) × (b < i)
is_chosen s i a b x part node =
    let names : NamesBefore i (nodes.Chosen a b) = subst (NamesBefore i) node part.names in
    (part.same ∙ ap (family_of s.families) node, names.0, names.1)

pub is_woven : (s : Shapes) (i a b : ℕ) (x : Part) → IsPart s.families s.rows i x → x.node ≡ nodes.Woven a b
    → (shape s i ≡ Woven (shape s a) (shape s b)) × (a < i) × (b < i) × (most (shape s i) < s.rows)
is_woven s i a b x part node =
    let names : NamesBefore i (nodes.Woven a b) = subst (NamesBefore i) node part.names in
    (part.same ∙ ap (family_of s.families) node, names.0, names.1, subst (HasRows s.rows (most (shape s i))) node part.table)

-- a script has no more lines than the part has at the most
pub few_lines : (s : Shapes) (i n r : ℕ) (x : Part) → IsPart s.families s.rows i x → r < count (shape s i) n → (n ≤ most (shape s i)) × (n ≤ 16777216)
few_lines s i n r x part lt =
    elim (cases_lt (most (shape s i)) n) [
      | inl more ↦ absurd (omega (arith, none_above (shape s i) x.least x.row.items part.row n more))
      | inr le ↦ (le, omega (arith, part.few))
    ]
