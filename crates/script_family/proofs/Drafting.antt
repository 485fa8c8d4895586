-- A family as it is read, line by line.
use Rattle.std.proofs.Common.{◌≡◌, refl, sym, ◌∙◌, ap, ap₂, subst, ℕ, ◌+◌, ◌<◌, ◌≤◌, max, arith, length, length-append, map, reverse, List, [], ◌∷◌, ◌++◌, Option, Some, None, Bool, true, false, cond, ◌⊎◌, inl, inr}
use Rattle.std.proofs.lemmas.List.{get_or_push}
use Rattle.std.specs.Option.{option_map}
use Rattle.script_family.specs.declared.draft.Draft.{Draft}
use Rattle.script_family.specs.declared.draft.OpenBlock.{OpenBlock}
use Rattle.script_family.specs.declared.sort.BlockKind.{BlockKind}
use Rattle.script_family.specs.declared.sort.BlockKind.TheVariants as kinds
use Rattle.script_family.specs.declared.sort.LineSort.{LineSort}
use Rattle.script_family.specs.declared.sort.LineSort.TheVariants as sorts
use Rattle.script_family.specs.Families.{Family, Silent, Says, Followed, Chosen, Woven, most}
use Rattle.script_family.specs.Reading.{bad_line, too_large, Block, Standing, Turn, goes, stops, Outcome, joined, is_small, same_kind, next_part, closed, turn}
use Rattle.script_family.specs.Drafts.{Went, part_at, block_of, standing, IfIn, IsIn, AreIn, AreNamed, if_heavy, blocks_heavy, standing_heavy, standing_most}
use Rattle.script_family.specs.Weights.{heaviest}
use Rattle.script_family.proofs.Growing.{at_left}

if_in_more : (n m : ℕ) (o : Option ℕ) → n ≤ m → IfIn n o → IfIn m o
if_in_more n m None le h = h
if_in_more n m (Some i) le h = omega (arith, h)

pub are_in_more : (n m : ℕ) (bs : List OpenBlock) → n ≤ m → AreIn n bs → AreIn m bs
are_in_more n m [] le h = h
are_in_more n m (b ∷ bs) le h = ((omega (arith, h.0.0), if_in_more n m b.over le h.0.1), are_in_more n m bs le h.1)

if_kept : (fs gs : List Family) (o : Option ℕ) → IfIn (length fs) o → option_map (part_at (fs ++ gs)) o ≡ option_map (part_at fs) o
if_kept fs gs None h = refl
if_kept fs gs (Some i) h = ap Some (at_left fs gs i h)

pub block_kept : (fs gs : List Family) (b : OpenBlock) → IsIn (length fs) b → block_of (fs ++ gs) b ≡ block_of fs b
block_kept fs gs b h =
    let make : Family → Option Family → Block = λ f o. record { kind = b.kind; line = b.line; before = f; over = o } in
    ap₂ make (at_left fs gs b.before h.0) (if_kept fs gs b.over h.1)

pub blocks_kept : (fs gs : List Family) (bs : List OpenBlock) → AreIn (length fs) bs → map (block_of (fs ++ gs)) bs ≡ map (block_of fs) bs
blocks_kept fs gs [] h = refl
blocks_kept fs gs (b ∷ bs) h = ap₂ (λ x xs. x ∷ xs) (block_kept fs gs b h.0) (blocks_kept fs gs bs h.1)

at_end : (fs : List Family) (g : Family) (i : ℕ) → i ≡ length fs → part_at (fs ++ g ∷ []) i ≡ g
at_end fs g i is = get_or_push fs g Silent i (sym is)

-- what is read now changes, and parts were added
pub stands : (fs gs : List Family) (now : ℕ) (f : Family) (bs : List OpenBlock) → AreIn (length fs) bs → part_at (fs ++ gs) now ≡ f
    → standing (fs ++ gs) now bs ≡ record { now = f; blocks = map (block_of fs) bs }
stands fs gs now f bs ok is =
    let make : Family → List Block → Standing = λ g blocks. record { now = g; blocks = blocks } in
    ap₂ make is (blocks_kept fs gs bs ok)

-- where a draft stands whose blocks are these
pub went : (e : Draft) (bs : List OpenBlock) (s : Standing) → reverse e.blocks.items ≡ bs → standing e.parts.families e.current bs ≡ s
    → AreNamed e.parts.families e.current bs → Went (goes s) e
went e bs s rev is named = record {
  there = ap goes (sym is ∙ ap (standing e.parts.families e.current) (sym rev));
  named = subst (AreNamed e.parts.families e.current) (sym rev) named;
}

-- a line was said
pub said_stands : (fs : List Family) (now said now' at : ℕ) (bs : List OpenBlock) (mid new : List Family) → AreNamed fs now bs → said ≡ length fs
    → mid ≡ fs ++ Says at ∷ [] → now' ≡ length mid → new ≡ mid ++ Followed (part_at mid now) (part_at mid said) ∷ []
    → (standing new now' bs ≡ record { now = Followed (part_at fs now) (Says at); blocks = map (block_of fs) bs }) × AreNamed new now' bs
said_stands fs now said now' at bs mid new named is middle next grown =
    let gs : List Family = fs ++ Says at ∷ [] in
    let f : Family = Followed (part_at gs now) (part_at gs said) in
    let whole : new ≡ gs ++ f ∷ [] = grown ∙ ap (λ v. v ++ Followed (part_at v now) (part_at v said) ∷ []) middle in
    let next' : now' ≡ length gs = next ∙ ap (λ (v : List Family). length v) middle in
    let counts : length gs ≡ length fs + 1 = length-append fs (Says at ∷ []) in
    let all : length (gs ++ f ∷ []) ≡ length gs + 1 = length-append gs (f ∷ []) in
    let kept : AreIn (length gs) bs = are_in_more (length fs) (length gs) bs (omega arith) named.blocks_in in
    let now_is : part_at (gs ++ f ∷ []) now' ≡ Followed (part_at fs now) (Says at) =
    at_end gs f now' next' ∙ ap₂ Followed (at_left fs (Says at ∷ []) now named.now_in) (at_end fs (Says at) said is) in
    let make : Family → List Block → Standing = λ g blocks. record { now = g; blocks = blocks } in (
      ap (λ v. standing v now' bs) whole ∙ stands gs (f ∷ []) now' (Followed (part_at fs now) (Says at)) bs kept now_is
          ∙ ap (λ v. make (Followed (part_at fs now) (Says at)) v) (blocks_kept fs (Says at ∷ []) bs named.blocks_in),
      subst (λ v. AreNamed v now' bs) (sym whole)
          (record { now_in = omega arith; blocks_in = are_in_more (length fs) (length (gs ++ f ∷ [])) bs (omega arith) named.blocks_in }),
    )

-- a silent part begins
pub silent_stands : (fs : List Family) (now : ℕ) (bs : List OpenBlock) (new : List Family) → AreIn (length fs) bs → now ≡ length fs → new ≡ fs ++ Silent ∷ []
    → (standing new now bs ≡ record { now = Silent; blocks = map (block_of fs) bs }) × AreNamed new now bs
silent_stands fs now bs new ok is grown =
    let all : length (fs ++ Silent ∷ []) ≡ length fs + 1 = length-append fs (Silent ∷ []) in (
      ap (λ v. standing v now bs) grown ∙ stands fs (Silent ∷ []) now Silent bs ok (at_end fs Silent now is),
      subst (λ v. AreNamed v now bs) (sym grown) (record { now_in = omega arith; blocks_in = are_in_more (length fs) (length (fs ++ Silent ∷ [])) bs (omega arith) ok }),
    )

-- The next part of a block, and its end -------------------------------------------------------------

pub next_stands : (fs more : List Family) (now i now' : ℕ) (b : OpenBlock) (bs : List OpenBlock) (new : List Family) (f : Family) → AreNamed fs now (b ∷ bs)
    → i < length (fs ++ more) → part_at (fs ++ more) i ≡ f → now' ≡ length (fs ++ more) → new ≡ (fs ++ more) ++ Silent ∷ []
    → (standing new now' (record { kind = b.kind; line = b.line; before = b.before; over = Some i } ∷ bs)
    ≡ record { now = Silent; blocks = record { kind = b.kind; line = b.line; before = part_at fs b.before; over = Some f } ∷ map (block_of fs) bs })
    × AreNamed new now' (record { kind = b.kind; line = b.line; before = b.before; over = Some i } ∷ bs)
next_stands fs more now i now' b bs new f named there is now_is grown =
    let gs : List Family = fs ++ more in
    let next : OpenBlock = record { kind = b.kind; line = b.line; before = b.before; over = Some i } in
    let count : length gs ≡ length fs + length more = length-append fs more in
    let before_in : b.before < length gs = omega (arith, named.blocks_in.0.0) in
    let kept : AreIn (length gs) bs = are_in_more (length fs) (length gs) bs (omega arith) named.blocks_in.1 in
    let make : Family → Family → List Block → Standing = λ g h blocks. record { now = Silent; blocks = record { kind = b.kind; line = b.line; before = g; over = Some h } ∷ blocks } in
    let s = silent_stands gs now' (next ∷ bs) new ((before_in, there), kept) now_is grown in (
      s.0 ∙ ap₂ (λ g h. make g h (map (block_of gs) bs)) (at_left fs more b.before named.blocks_in.0.0) is ∙ ap (make (part_at fs b.before) f) (blocks_kept fs more bs named.blocks_in.1),
      s.1,
    )

pub close_stands : (fs more : List Family) (now i now' : ℕ) (b : OpenBlock) (bs : List OpenBlock) (new : List Family) (f : Family) → AreNamed fs now (b ∷ bs)
    → i < length (fs ++ more) → part_at (fs ++ more) i ≡ f → now' ≡ length (fs ++ more)
    → new ≡ (fs ++ more) ++ Followed (part_at (fs ++ more) b.before) (part_at (fs ++ more) i) ∷ []
    → (standing new now' bs ≡ record { now = Followed (part_at fs b.before) f; blocks = map (block_of fs) bs }) × AreNamed new now' bs
close_stands fs more now i now' b bs new f named there is now_is grown =
    let gs : List Family = fs ++ more in
    let g : Family = Followed (part_at gs b.before) (part_at gs i) in
    let count : length gs ≡ length fs + length more = length-append fs more in
    let all : length (gs ++ g ∷ []) ≡ length gs + 1 = length-append gs (g ∷ []) in
    let kept : AreIn (length gs) bs = are_in_more (length fs) (length gs) bs (omega arith) named.blocks_in.1 in
    let make : Family → List Block → Standing = λ h blocks. record { now = h; blocks = blocks } in
    let now_at : part_at (gs ++ g ∷ []) now' ≡ Followed (part_at fs b.before) f =
    at_end gs g now' now_is ∙ ap₂ Followed (at_left fs more b.before named.blocks_in.0.0) is in (
      ap (λ v. standing v now' bs) grown ∙ stands gs (g ∷ []) now' (Followed (part_at fs b.before) f) bs kept now_at
          ∙ ap (make (Followed (part_at fs b.before) f)) (blocks_kept fs more bs named.blocks_in.1),
      subst (λ v. AreNamed v now' bs) (sym grown)
          (record { now_in = omega arith; blocks_in = are_in_more (length gs) (length (gs ++ g ∷ [])) bs (omega arith) kept }),
    )

pub turn_next : (kind : BlockKind) (n : ℕ) (now : Family) (b : Block) (bs : List Block) → same_kind kind b.kind ≡ true → is_small b.kind b.over now ≡ true
    → next_part kind n now (b ∷ bs)
    ≡ goes (record { now = Silent; blocks = record { kind = b.kind; line = b.line; before = b.before; over = Some (joined b.kind b.over now) } ∷ bs })
turn_next kind n now b bs same small =
    let there : Turn = goes (record { now = Silent; blocks = record { kind = b.kind; line = b.line; before = b.before; over = Some (joined b.kind b.over now) } ∷ bs }) in
    ap (λ c. cond c (cond (is_small b.kind b.over now) there (stops too_large)) (stops (bad_line n))) same ∙ ap (λ c. cond c there (stops too_large)) small

pub turn_other : (kind : BlockKind) (n : ℕ) (now : Family) (b : Block) (bs : List Block) → same_kind kind b.kind ≡ false → next_part kind n now (b ∷ bs) ≡ stops (bad_line n)
turn_other kind n now b bs other =
    ap (λ c. cond c
    (cond (is_small b.kind b.over now)
    (goes (record { now = Silent; blocks = record { kind = b.kind; line = b.line; before = b.before; over = Some (joined b.kind b.over now) } ∷ bs })) (stops too_large))
    (stops (bad_line n))) other

pub turn_next_large : (kind : BlockKind) (n : ℕ) (now : Family) (b : Block) (bs : List Block) → same_kind kind b.kind ≡ true → is_small b.kind b.over now ≡ false
    → next_part kind n now (b ∷ bs) ≡ stops too_large
turn_next_large kind n now b bs same large =
    let there : Turn = goes (record { now = Silent; blocks = record { kind = b.kind; line = b.line; before = b.before; over = Some (joined b.kind b.over now) } ∷ bs }) in
    ap (λ c. cond c (cond (is_small b.kind b.over now) there (stops too_large)) (stops (bad_line n))) same ∙ ap (λ c. cond c there (stops too_large)) large

pub turn_close : (n : ℕ) (now : Family) (b : Block) (bs : List Block) → is_small b.kind b.over now ≡ true
    → closed n now (b ∷ bs) ≡ goes (record { now = Followed b.before (joined b.kind b.over now); blocks = bs })
turn_close n now b bs small = ap (λ c. cond c (goes (record { now = Followed b.before (joined b.kind b.over now); blocks = bs })) (stops too_large)) small

pub turn_close_large : (n : ℕ) (now : Family) (b : Block) (bs : List Block) → is_small b.kind b.over now ≡ false → closed n now (b ∷ bs) ≡ stops too_large
turn_close_large n now b bs large = ap (λ c. cond c (goes (record { now = Followed b.before (joined b.kind b.over now); blocks = bs })) (stops too_large)) large

-- How heavy it is ---------------------------------------------------------------------------------

bool_cases : (b : Bool) → (b ≡ true) ⊎ (b ≡ false)
bool_cases true = inl refl
bool_cases false = inr refl

pub most_is : (f : Family) → most f ≡ heaviest (λ at. 1) f
most_is Silent = refl
most_is (Says line) = refl
most_is (Followed a b) = ap₂ (λ m n. m + n) (most_is a) (most_is b)
most_is (Chosen a b) = ap₂ (λ m n. max m n) (most_is a) (most_is b)
most_is (Woven a b) = ap₂ (λ m n. m + n) (most_is a) (most_is b)

joined_heavy : (w : ℕ → ℕ) (kind : BlockKind) (over : Option Family) (f : Family) → heaviest w (joined kind over f) ≤ if_heavy w over + heaviest w f
joined_heavy w kind None f = omega arith
joined_heavy w kinds.Either (Some g) f = omega arith
joined_heavy w kinds.Together (Some g) f = omega arith

-- two parts that are put one behind the other
pub close_most : (now : Family) (b : Block) (bs : List Block) → standing_most (record { now = now; blocks = b ∷ bs }) ≤ 16777216
    → most b.before + most (joined b.kind b.over now) ≤ 16777216
close_most now b bs few =
    omega (arith, few, joined_heavy (λ at. 1) b.kind b.over now, most_is b.before, most_is (joined b.kind b.over now))

turn_goes : (a b : Standing) → goes a ≡ goes b → a ≡ b
turn_goes a b e = cc

never_stops : (o : Outcome) (s : Standing) → stops o ≡ goes s → ⊥
never_stops o s e = cc

next_heavy : (w : ℕ → ℕ) (kind : BlockKind) (n m : ℕ) (now : Family) (bs : List Block) (s : Standing) → next_part kind n now bs ≡ goes s
    → standing_heavy w s ≤ heaviest w now + blocks_heavy w bs + m
next_heavy w kind n m now [] s e = absurd (never_stops (bad_line n) s e)
next_heavy w kind n m now (b ∷ bs) s e =
    elim (bool_cases (same_kind kind b.kind)) [
      | inl same ↦ elim (bool_cases (is_small b.kind b.over now)) [
        | inl small ↦
            let there : Standing = record { now = Silent; blocks = record { kind = b.kind; line = b.line; before = b.before; over = Some (joined b.kind b.over now) } ∷ bs } in
            let is : there ≡ s = turn_goes there s (sym (turn_next kind n now b bs same small) ∙ e) in
            subst (λ v. standing_heavy w v ≤ heaviest w now + blocks_heavy w (b ∷ bs) + m) is (omega (arith, joined_heavy w b.kind b.over now))
        | inr large ↦ absurd (never_stops too_large s (sym (turn_next_large kind n now b bs same large) ∙ e))
      ]
      | inr other ↦ absurd (never_stops (bad_line n) s (sym (turn_other kind n now b bs other) ∙ e))
    ]

close_heavy : (w : ℕ → ℕ) (n m : ℕ) (now : Family) (bs : List Block) (s : Standing) → closed n now bs ≡ goes s
    → standing_heavy w s ≤ heaviest w now + blocks_heavy w bs + m
close_heavy w n m now [] s e = absurd (never_stops (bad_line n) s e)
close_heavy w n m now (b ∷ bs) s e =
    elim (bool_cases (is_small b.kind b.over now)) [
      | inl small ↦
          let there : Standing = record { now = Followed b.before (joined b.kind b.over now); blocks = bs } in
          let is : there ≡ s = turn_goes there s (sym (turn_close n now b bs small) ∙ e) in
          subst (λ v. standing_heavy w v ≤ heaviest w now + blocks_heavy w (b ∷ bs) + m) is (omega (arith, joined_heavy w b.kind b.over now))
      | inr large ↦ absurd (never_stops too_large s (sym (turn_close_large n now b bs large) ∙ e))
    ]

-- a turn adds at most the weight of the line
pub turn_heavy : (w : ℕ → ℕ) (sort : LineSort) (n at : ℕ) (s t : Standing) → turn sort n at s ≡ goes t → standing_heavy w t ≤ standing_heavy w s + w at
turn_heavy w sorts.Nothing n at s t e = subst (λ v. standing_heavy w v ≤ standing_heavy w s + w at) (turn_goes s t e) (omega arith)
turn_heavy w sorts.Said n at s t e =
    let there : Standing = record { now = Followed s.now (Says at); blocks = s.blocks } in
    subst (λ v. standing_heavy w v ≤ standing_heavy w s + w at) (turn_goes there t e) (omega arith)
turn_heavy w (sorts.Opens kind) n at s t e =
    let there : Standing = record { now = Silent; blocks = record { kind = kind; line = n; before = s.now; over = None } ∷ s.blocks } in
    subst (λ v. standing_heavy w v ≤ standing_heavy w s + w at) (turn_goes there t e) (omega arith)
turn_heavy w (sorts.Parts kind) n at s t e = next_heavy w kind n (w at) s.now s.blocks t e
turn_heavy w sorts.Closes n at s t e = close_heavy w n (w at) s.now s.blocks t e
turn_heavy w sorts.Bad n at s t e = absurd (never_stops (bad_line n) t e)

-- a line behind what is read now
pub said_few : (fs : List Family) (now said at : ℕ) (bs : List OpenBlock) (mid : List Family) → AreNamed fs now bs → said ≡ length fs → mid ≡ fs ++ Says at ∷ []
    → standing_most (standing fs now bs) < 16777216 → most (part_at mid now) + most (part_at mid said) ≤ 16777216
said_few fs now said at bs mid named is middle few =
    let first : most (part_at mid now) ≡ most (part_at fs now) =
    ap (λ v. most (part_at v now)) middle ∙ ap most (at_left fs (Says at ∷ []) now named.now_in) in
    let second : most (part_at mid said) ≡ 1 = ap (λ v. most (part_at v said)) middle ∙ ap most (at_end fs (Says at) said is) in
    omega (arith, first, second, most_is (part_at fs now), few)

-- By what the code does -----------------------------------------------------------------------------

pub close_few : (fs more new : List Family) (cur i : ℕ) (b : OpenBlock) (bs : List OpenBlock) → AreNamed fs cur (b ∷ bs) → new ≡ fs ++ more
    → part_at new i ≡ joined b.kind (option_map (part_at fs) b.over) (part_at fs cur) → standing_most (standing fs cur (b ∷ bs)) ≤ 16777216
    → most (part_at new b.before) + most (part_at new i) ≤ 16777216
close_few fs more new cur i b bs named grown is few =
    let first : most (part_at new b.before) ≡ most (part_at fs b.before) =
    ap (λ v. most (part_at v b.before)) grown ∙ ap most (at_left fs more b.before named.blocks_in.0.0) in
    omega (arith, first, ap most is, close_most (part_at fs cur) (block_of fs b) (map (block_of fs) bs) few)

pub close_went : (fs more mid : List Family) (cur i line : ℕ) (b : OpenBlock) (bs old : List OpenBlock) (e : Draft) → old ≡ b ∷ bs → AreNamed fs cur old → mid ≡ fs ++ more
    → i < length mid → part_at mid i ≡ joined b.kind (option_map (part_at fs) b.over) (part_at fs cur)
    → is_small b.kind (option_map (part_at fs) b.over) (part_at fs cur) ≡ true → e.current ≡ length mid
    → e.parts.families ≡ mid ++ Followed (part_at mid b.before) (part_at mid i) ∷ [] → reverse e.blocks.items ≡ bs
    → Went (closed line (part_at fs cur) (map (block_of fs) old)) e
close_went fs more mid cur i line b bs old e rev named grown there is small next new blocks =
    let f : Family = joined b.kind (option_map (part_at fs) b.over) (part_at fs cur) in
    let named' : AreNamed fs cur (b ∷ bs) = subst (AreNamed fs cur) rev named in
    let s = close_stands fs more cur i e.current b bs e.parts.families f named' (subst (λ (v : List Family). i < length v) grown there)
    (ap (λ v. part_at v i) (sym grown) ∙ is) (next ∙ ap (λ (v : List Family). length v) grown)
    (new ∙ ap (λ v. v ++ Followed (part_at v b.before) (part_at v i) ∷ []) grown) in
    let to : Standing = record { now = Followed (part_at fs b.before) f; blocks = map (block_of fs) bs } in
    let is_turn : closed line (part_at fs cur) (map (block_of fs) old) ≡ goes to =
    ap (λ v. closed line (part_at fs cur) (map (block_of fs) v)) rev ∙ turn_close line (part_at fs cur) (block_of fs b) (map (block_of fs) bs) small in
    subst (λ t. Went t e) (sym is_turn) (went e bs to blocks s.0 s.1)

pub next_went : (fs more mid : List Family) (cur i line : ℕ) (kind : BlockKind) (b : OpenBlock) (bs old : List OpenBlock) (e : Draft) → old ≡ b ∷ bs → AreNamed fs cur old
    → mid ≡ fs ++ more → i < length mid → part_at mid i ≡ joined b.kind (option_map (part_at fs) b.over) (part_at fs cur)
    → is_small b.kind (option_map (part_at fs) b.over) (part_at fs cur) ≡ true → same_kind kind b.kind ≡ true → e.current ≡ length mid
    → e.parts.families ≡ mid ++ Silent ∷ [] → reverse e.blocks.items ≡ record { kind = b.kind; line = b.line; before = b.before; over = Some i } ∷ bs
    → Went (next_part kind line (part_at fs cur) (map (block_of fs) old)) e
next_went fs more mid cur i line kind b bs old e rev named grown there is small same next new blocks =
    let f : Family = joined b.kind (option_map (part_at fs) b.over) (part_at fs cur) in
    let named' : AreNamed fs cur (b ∷ bs) = subst (AreNamed fs cur) rev named in
    let s = next_stands fs more cur i e.current b bs e.parts.families f named' (subst (λ (v : List Family). i < length v) grown there)
    (ap (λ v. part_at v i) (sym grown) ∙ is) (next ∙ ap (λ (v : List Family). length v) grown) (new ∙ ap (λ v. v ++ Silent ∷ []) grown) in
    let to : Standing = record { now = Silent; blocks = record { kind = b.kind; line = b.line; before = part_at fs b.before; over = Some f } ∷ map (block_of fs) bs } in
    let is_turn : next_part kind line (part_at fs cur) (map (block_of fs) old) ≡ goes to =
    ap (λ v. next_part kind line (part_at fs cur) (map (block_of fs) v)) rev ∙ turn_next kind line (part_at fs cur) (block_of fs b) (map (block_of fs) bs) same small in
    subst (λ t. Went t e) (sym is_turn) (went e (record { kind = b.kind; line = b.line; before = b.before; over = Some i } ∷ bs) to blocks s.0 s.1)
