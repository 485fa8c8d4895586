-- What a page is: every tag closed in order, every text escaped, and its marks: the arrows, and texts that stand in elements of their own.
use Rattle.std.specs.Prelude.{◌≡◌, ◌==◌, ◌||◌, ℕ, List, [], ◌∷◌, ◌++◌, codes, nat_lt, if◌then◌else◌}
use Rattle.view_page.specs.Words.{Text, tag_text, empty_text, attribute_text, attribute_front}
use Rattle.view_page.specs.declared.words.Part.{Part}
use Rattle.view_page.specs.declared.words.Tag.{Tag}
use Rattle.view_page.specs.declared.words.Empty.{Empty}
use Rattle.view_page.specs.declared.words.Attribute.{Attribute}

-- a byte as it is written: what a page would read as its own stands as an entity, and what is no printed sign of ASCII and no line
-- feed stands as a question mark
abbrev pub escaped_byte : ℕ → Text
escaped_byte byte =
    if byte == 60 then codes "&lt;"
    else if byte == 62 then codes "&gt;"
    else if byte == 38 then codes "&amp;"
    else if byte == 34 then codes "&quot;"
    else if byte == 39 then codes "&#39;"
    else if byte == 10 then 10 ∷ []
    else if nat_lt byte 32 || nat_lt 126 byte then codes "?"
    else byte ∷ []

abbrev pub escaped : Text → Text
escaped [] = []
escaped (byte ∷ bytes) = escaped_byte byte ++ escaped bytes

-- a name with its value in quotation marks
abbrev pub valued : Text → Text → Text
valued name value = 32 ∷ name ++ 61 ∷ 34 ∷ escaped value ++ 34 ∷ []

-- an attribute with its value, behind what stands before it
abbrev pub attribute : Attribute × Text → Text
attribute one = 32 ∷ attribute_text one.0 ++ 61 ∷ 34 ∷ attribute_front one.0 ++ escaped one.1 ++ 34 ∷ []

abbrev pub attributes_text : List (Attribute × Text) → Text
attributes_text [] = []
attributes_text (one ∷ others) = attribute one ++ attributes_text others

-- <name attributes>
abbrev pub open_tag : Tag → List (Attribute × Text) → Text
open_tag tag attributes = 60 ∷ tag_text tag ++ attributes_text attributes ++ 62 ∷ []

-- </name>
abbrev pub close_tag : Tag → Text
close_tag tag = 60 ∷ 47 ∷ tag_text tag ++ 62 ∷ []

-- <name attributes/>
abbrev pub empty_tag : Empty → List (Attribute × Text) → Text
empty_tag empty attributes = 60 ∷ empty_text empty ++ attributes_text attributes ++ 47 ∷ 62 ∷ []

-- <path data-mark="mark" attributes/>: no `Attribute` is written `data-mark`
abbrev pub arrow_tag : Text → List (Attribute × Text) → Text
arrow_tag mark attributes = codes "<path" ++ valued (codes "data-mark") mark ++ attributes_text attributes ++ 47 ∷ 62 ∷ []

-- <name attributes>text</name>
abbrev pub text_element : Tag → List (Attribute × Text) → Text → Text
text_element tag attributes text = open_tag tag attributes ++ escaped text ++ close_tag tag

-- what is marked: an arrow with its mark, or a text in an element of its own
abbrev pub Mark : Type 0
Mark = Part × Text

-- Bytes that are content of a page, with the marks in it, in order.
pub data IsContent : List Mark → Text → Type 0 where
  -- nothing is content
  nothing : IsContent [] []
  -- a text is, escaped
  words : (text : Text) → IsContent [] (escaped text)
  -- an element is, from its tag to the tag of the same name that closes it
  element : (tag : Tag) (attributes : List (Attribute × Text)) (marks : List Mark) (inner : Text) → IsContent marks inner → IsContent marks (open_tag tag attributes ++ inner ++ close_tag tag)
  -- an element without content is
  empty : (name : Empty) (attributes : List (Attribute × Text)) → IsContent [] (empty_tag name attributes)
  -- an arrow is, and carries its mark
  arrow : (mark : Text) (attributes : List (Attribute × Text)) → IsContent ((Part.Arrow, mark) ∷ []) (arrow_tag mark attributes)
  -- an element that holds a text alone may be marked by it
  marked : (tag : Tag) (attributes : List (Attribute × Text)) (text : Text) → IsContent ((Part.Words tag, text) ∷ []) (text_element tag attributes text)
  -- one beside another is
  beside : (marks : List Mark) (text : Text) (more : List Mark) (after : Text) → IsContent marks text → IsContent more after → IsContent (marks ++ more) (text ++ after)

abbrev pub page_front : Text
page_front = codes "<!DOCTYPE html>" ++ 10 ∷ codes "<html lang=" ++ 34 ∷ codes "en" ++ 34 ∷ 62 ∷ 10 ∷ []

abbrev pub page_end : Text
page_end = codes "</html>" ++ 10 ∷ []

-- A page: the line that says what it is, and one element html with content that has these marks.
pub record IsPage (marks : List Mark) (bytes : Text) : Type 0 where
  pub inner : Text
  pub content : IsContent marks inner
  pub all : bytes ≡ page_front ++ inner ++ page_end

-- A page so far: the elements in html that are open, the newest first, its marks, and its bytes.
pub record PageSoFar : Type 0 where
  pub elements : List Tag
  pub marks : List Mark
  pub text : Text

-- what was written of html while no element in it is open
pub record IsBegun (marks : List Mark) (text : Text) : Type 0 where
  pub inner : Text
  pub content : IsContent marks inner
  pub all : text ≡ page_front ++ inner

-- what was written while this element is open in what was written before
pub record IsWithin (tag : Tag) (before : List Mark → Text → Type 0) (marks : List Mark) (text : Text) : Type 0 where
  pub marks_before : List Mark
  pub text_before : Text
  pub attributes : List (Attribute × Text)
  pub marks_inner : List Mark
  pub inner : Text
  pub outer : before marks_before text_before
  pub content : IsContent marks_inner inner
  pub all_marks : marks ≡ marks_before ++ marks_inner
  pub all : text ≡ text_before ++ open_tag tag attributes ++ inner

-- what was written while these elements are open, the newest first
abbrev pub IsOpen : List Tag → List Mark → Text → Type 0
IsOpen [] marks text = IsBegun marks text
IsOpen (tag ∷ outer) marks text = IsWithin tag (IsOpen outer) marks text
