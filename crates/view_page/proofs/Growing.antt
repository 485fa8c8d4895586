-- How a page grows: by content, by a tag that opens an element, and by one that closes it.
use Rattle.std.proofs.Common.{◌≡◌, ◌<◌, ℕ, zero, suc, List, [], ◌∷◌, ◌++◌, length, map, reverse, Option, Some, None, sym, ◌∙◌, ap, subst, refl, append_assoc, append-nil, arith}
use Rattle.std.proofs.lemmas.List.{reverse-append}
use Rattle.std.specs.Option.{option_to_list}
use Rattle.view_page.specs.Words.{Text}
use Rattle.view_page.specs.Pages.{IsContent, Mark, IsPage, IsOpen, open_tag, close_tag, page_front, page_end}
use Rattle.view_page.specs.declared.words.Tag.{Tag}
use Rattle.view_page.specs.declared.words.Attribute.{Attribute}

-- by content
pub content_more : (elements : List Tag) (marks : List Mark) (text : Text) (more : List Mark) (after : Text) → IsOpen elements marks text → IsContent more after → IsOpen elements (marks ++ more) (text ++ after)
content_more [] marks text more after h content = record {
  inner = h.inner ++ after;
  content = IsContent.beside marks h.inner more after h.content content;
  all = ap (λ t. t ++ after) h.all ∙ append_assoc page_front h.inner after;
}
content_more (tag ∷ outer) marks text more after h content = record {
  marks_before = h.marks_before;
  text_before = h.text_before;
  attributes = h.attributes;
  marks_inner = h.marks_inner ++ more;
  inner = h.inner ++ after;
  outer = h.outer;
  content = IsContent.beside h.marks_inner h.inner more after h.content content;
  all_marks = ap (λ m. m ++ more) h.all_marks ∙ append_assoc h.marks_before h.marks_inner more;
  all = ap (λ t. t ++ after) h.all ∙ append_assoc (h.text_before ++ open_tag tag h.attributes) h.inner after;
}

-- by content without marks
pub words_more : (elements : List Tag) (marks : List Mark) (text after : Text) → IsOpen elements marks text → IsContent [] after → IsOpen elements marks (text ++ after)
words_more elements marks text after h content = subst (λ m. IsOpen elements m (text ++ after)) (append-nil marks) (content_more elements marks text [] after h content)

-- by a tag that opens an element
pub open_more : (elements : List Tag) (marks : List Mark) (text : Text) (tag : Tag) (attributes : List (Attribute × Text)) → IsOpen elements marks text → IsOpen (tag ∷ elements) marks (text ++ open_tag tag attributes)
open_more elements marks text tag attributes h = record {
  marks_before = marks;
  text_before = text;
  attributes = attributes;
  marks_inner = [];
  inner = [];
  outer = h;
  content = IsContent.nothing;
  all_marks = sym (append-nil marks);
  all = sym (append-nil (text ++ open_tag tag attributes));
}

regroup : (a b c d : Text) → a ++ ((b ++ c) ++ d) ≡ ((a ++ b) ++ c) ++ d
regroup a b c d = sym (append_assoc a (b ++ c) d) ∙ ap (λ t. t ++ d) (sym (append_assoc a b c))

-- by the tag that closes it
pub close_more : (outer : List Tag) (marks : List Mark) (text : Text) (tag : Tag) → IsOpen (tag ∷ outer) marks text → IsOpen outer marks (text ++ close_tag tag)
close_more outer marks text tag h =
    let begin : Text = open_tag tag h.attributes in
    let whole = content_more outer h.marks_before h.text_before h.marks_inner ((begin ++ h.inner) ++ close_tag tag) h.outer (IsContent.element tag h.attributes h.marks_inner h.inner h.content) in
    subst (λ m. IsOpen outer m (text ++ close_tag tag)) (sym h.all_marks)
    (subst (λ t. IsOpen outer (h.marks_before ++ h.marks_inner) t) (regroup h.text_before begin h.inner (close_tag tag) ∙ ap (λ t. t ++ close_tag tag) (sym h.all)) whole)

-- a page whose elements are closed is finished
pub finished : (marks : List Mark) (text : Text) → IsOpen [] marks text → IsPage marks (text ++ page_end)
finished marks text h = record { inner = h.inner; content = h.content; all = ap (λ t. t ++ page_end) h.all }

-- The elements as they are kept, the newest last ------------------------------------------

pub pushed : (items : List Tag) (tag : Tag) → reverse (items ++ tag ∷ []) ≡ tag ∷ reverse items
pushed items tag = reverse-append items (tag ∷ [])

pub popped : (items rest : List Tag) (last : Option Tag) (tag : Tag) → items ≡ rest ++ option_to_list last → last ≡ Some tag → reverse items ≡ tag ∷ reverse rest
popped items rest last tag is some = ap reverse (is ∙ ap (λ o. rest ++ option_to_list o) some) ∙ pushed rest tag

pub some_open : (items : List Tag) (tag : Tag) (outer : List Tag) → reverse items ≡ tag ∷ outer → 0 < length items
some_open [] tag outer e = cc
some_open (x ∷ items) tag outer e = omega arith

-- What each call leaves ------------------------------------------------------------------

pub worded : (elements : List Tag) (marks : List Mark) (old new piece after : Text) → IsOpen elements marks old → new ≡ old ++ piece → piece ≡ after → IsContent [] after → IsOpen elements marks new
worded elements marks old new piece after h is was content = subst (λ t. IsOpen elements marks t) (sym (is ∙ ap (λ p. old ++ p) was)) (words_more elements marks old after h content)

pub marked : (elements : List Tag) (marks all : List Mark) (mark : Mark) (old new piece : Text) → IsOpen elements marks old → new ≡ old ++ piece → all ≡ marks ++ mark ∷ [] → IsContent (mark ∷ []) piece → IsOpen elements all new
marked elements marks all mark old new piece h is more content =
    subst (λ m. IsOpen elements m new) (sym more)
    (subst (λ t. IsOpen elements (marks ++ mark ∷ []) t) (sym is) (content_more elements marks old (mark ∷ []) piece h content))

pub opened : (items more : List Tag) (tag : Tag) (attributes : List (Attribute × Text)) (marks : List Mark) (old new piece : Text) → IsOpen (reverse items) marks old → more ≡ items ++ tag ∷ [] → new ≡ old ++ piece
    → piece ≡ open_tag tag attributes → IsOpen (reverse more) marks new
opened items more tag attributes marks old new piece h grows is was =
    subst (λ e. IsOpen e marks new) (sym (ap reverse grows ∙ pushed items tag))
    (subst (λ t. IsOpen (tag ∷ reverse items) marks t) (sym (is ∙ ap (λ p. old ++ p) was)) (open_more (reverse items) marks old tag attributes h))

pub closed : (items rest : List Tag) (last : Option Tag) (tag : Tag) (marks : List Mark) (old new piece : Text) → IsOpen (reverse items) marks old → items ≡ rest ++ option_to_list last → last ≡ Some tag
    → new ≡ old ++ piece → piece ≡ close_tag tag → IsOpen (reverse rest) marks new
closed items rest last tag marks old new piece h shrinks some is was =
    subst (λ t. IsOpen (reverse rest) marks t) (sym (is ∙ ap (λ p. old ++ p) was))
    (close_more (reverse rest) marks old tag (subst (λ e. IsOpen e marks old) (popped items rest last tag shrinks some) h))

-- the tag that is read last is the one that is open last
pub same_tag : (items rest : List Tag) (last : Option Tag) (read tag : Tag) (outer : List Tag) → items ≡ rest ++ option_to_list last → last ≡ Some read → reverse items ≡ tag ∷ outer → read ≡ tag
same_tag items rest last read tag outer is some e =
    let same : (read ∷ reverse rest) ≡ (tag ∷ outer) = sym (popped items rest last read is some) ∙ e in cc

-- and so what is written is its tag
pub closing : (items rest : List Tag) (last : Option Tag) (read tag : Tag) (outer : List Tag) (old new piece : Text) → items ≡ rest ++ option_to_list last → last ≡ Some read → new ≡ old ++ piece
    → piece ≡ close_tag read → reverse items ≡ tag ∷ outer → new ≡ old ++ close_tag tag
closing items rest last read tag outer old new piece is some grows was e =
    grows ∙ ap (λ p. old ++ p) (was ∙ ap close_tag (same_tag items rest last read tag outer is some e))
