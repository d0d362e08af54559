-- What a picture shows to a reader who leaves its tags out.
use Rattle.std.specs.Prelude.{◌≡◌, ◌≢◌, ℕ, ◌==◌, List, [], ◌∷◌, ◌++◌, codes, cond}
use Rattle.std.specs.List.{fold, AllByRecursion}
use Rattle.std.specs.Str.{bytes_eq}

-- where a reader stands: between tags, in a tag, or in an entity of which this much was read
pub data Place : Type 0 where
  Text : Place
  Tag : Place
  Entity : List ℕ → Place

-- where a reader stands, and what was shown so far
pub record ReaderState : Type 0 where
  pub place : Place
  pub shown : List ℕ

-- the byte that an entity shows
abbrev pub byte_of : List ℕ → List ℕ
byte_of name = cond (bytes_eq name (codes "lt")) (60 ∷ []) (cond (bytes_eq name (codes "amp")) (38 ∷ []) [])

-- a tag goes from `<` to `>`, an entity from `&` to `;`
abbrev pub next : Place → List ℕ → ℕ → ReaderState
next Text shown b = cond (b == 60) (record { place = Tag; shown = shown })
    (cond (b == 38) (record { place = Entity []; shown = shown }) (record { place = Text; shown = shown ++ b ∷ [] }))
next Tag shown b = cond (b == 62) (record { place = Text; shown = shown }) (record { place = Tag; shown = shown })
next (Entity name) shown b = cond (b == 59) (record { place = Text; shown = shown ++ byte_of name }) (record { place = Entity (name ++ b ∷ []); shown = shown })

-- after so many bytes more
abbrev pub reads_on : ReaderState → List ℕ → ReaderState
reads_on reading bytes = fold (λ r b. next r.place r.shown b) reading bytes

-- what was shown, between tags
abbrev pub between_tags : List ℕ → ReaderState
between_tags shown = record { place = Text; shown = shown }

-- after all bytes of a picture
abbrev pub reader_after : List ℕ → ReaderState
reader_after bytes = reads_on (between_tags []) bytes

-- between tags, they show this text, and end between tags
abbrev pub Shows : List ℕ → List ℕ → Type 0
Shows bytes text = (shown : List ℕ) → reads_on (between_tags shown) bytes ≡ between_tags (shown ++ text)

-- between tags, they begin a tag, and end in it
abbrev pub BeginsTag : List ℕ → Type 0
BeginsTag bytes = (shown : List ℕ) → reads_on (between_tags shown) bytes ≡ record { place = Tag; shown = shown }

-- no line ends here
abbrev pub IsOneLine : List ℕ → Type 0
IsOneLine bytes = AllByRecursion (λ b. b ≢ 10) bytes

-- what was shown, and then some names of lanes and tables, in none of which a line ends
abbrev pub AddsNames : List ℕ → List ℕ → Type 0
AddsNames old new = (names : List ℕ) × IsOneLine names × (new ≡ old ++ names)

-- a text, then names, and then the end of their line
abbrev pub IsDrawing : List ℕ → List ℕ → Type 0
IsDrawing text page = (named : List ℕ) × AddsNames text named × (page ≡ named ++ 10 ∷ [])
