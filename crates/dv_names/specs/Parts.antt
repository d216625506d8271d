-- What the reading of a part answers, which begins at a place of the text.
use Rattle.std.specs.Prelude.{◌≡◌, ℕ, ◌<◌, ◌≤◌, List, [], ◌∷◌, length, drop, Option, Some, Result, IfSome, slice_range, slice_index, MatchResult, IsTrue}
use Rattle.std.specs.List.{All, flat_map}
use Rattle.dv_defs.specs.declared.names.Ty.{Ty}
use Rattle.dv_names.specs.declared.error.NameError.{NameError}
use Rattle.dv_names.specs.Descriptors.{descriptor, return_text, is_name, is_special_name, IsType}
use Rattle.dv_names.specs.Grammar.{Position, Before, Angle, Special, Return, Array, Name, mode_behind, after, refusal, Refuses}

-- a part of the text, not empty
abbrev pub IsPart : List ℕ → ℕ → ℕ → Type 0
IsPart text start end = (start < end) × (end ≤ length text)

-- the bytes w, which are what is left of a special name
abbrev pub EndsWord : List ℕ → List ℕ → ℕ → Result ℕ NameError → Type 0
EndsWord w text start found = MatchResult found
    (λ end. (end ≤ length text) × (start ≤ end) × (slice_range text start end ≡ w))
    (λ e. (p : Position) → Refuses e (refusal (Name p (Special w)) start (drop start text)))

-- a special name, behind its `<`
abbrev pub EndsSpecial : List ℕ → ℕ → Result ℕ NameError → Type 0
EndsSpecial text start found = MatchResult found
    (λ end. IsPart text start end × IsTrue (is_special_name (60 ∷ slice_range text start end)))
    (λ e. (p : Position) → Refuses e (refusal (Name p Angle) start (drop start text)))

-- a name; at its end the text goes on as behind a whole name
abbrev pub EndsName : List ℕ → ℕ → Result ℕ NameError → Type 0
EndsName text start found = MatchResult found
    (λ end. IsPart text start end × IsTrue (is_name (slice_range text start end))
    × ((p : Position) → refusal (Name p Before) start (drop start text) ≡ refusal (Name p (Special [])) end (drop end text)))
    (λ e. (p : Position) → Refuses e (refusal (Name p Before) start (drop start text)))

-- the rest of a class's descriptor, behind its L
abbrev pub EndsClass : List ℕ → ℕ → Result ℕ NameError → Type 0
EndsClass text start found = MatchResult found
    (λ end. IsPart text start end × ((p : Position) → after (Name p Before) (slice_range text start end) ≡ Some (mode_behind p)))
    (λ e. (p : Position) → Refuses e (refusal (Name p Before) start (drop start text)))

-- a type, which ends at the number
abbrev pub ReadsType : List ℕ → ℕ → Result (Ty × ℕ) NameError → Type 0
ReadsType text start found = MatchResult found
    (λ x. IsPart text start x.1 × IsType x.0 × (slice_range text start x.1 ≡ descriptor x.0))
    (λ e. (p : Position) → Refuses e (refusal (Array p 0) start (drop start text)))

-- what stands behind the parentheses
abbrev pub ReadsReturn : List ℕ → ℕ → Result (Option Ty × ℕ) NameError → Type 0
ReadsReturn text start found = MatchResult found
    (λ x. IsPart text start x.1 × IfSome x.0 IsType × (slice_range text start x.1 ≡ return_text x.0))
    (λ e. Refuses e (refusal Return start (drop start text)))

-- the parameters, up to the parenthesis at the number
abbrev pub ReadsParameters : List ℕ → ℕ → List Ty → ℕ → Type 0
ReadsParameters text start params close = (start ≤ close) × (close < length text) × (slice_index text close ≡ 41)
    × All IsType params × (slice_range text start close ≡ flat_map descriptor params)
