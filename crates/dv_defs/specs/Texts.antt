-- Guest strings as bytes, and the names of classes as Java has them (JLS 3.10.5; Unicode, UTF-16 and UTF-8). Strings are lists of UTF-16 units.
use Rattle.std.specs.Prelude.{ℕ, ◌+◌, ◌-◌, ◌*◌, ◌/◌, ◌%◌, true, false, List, [], ◌∷◌, ◌++◌, length, map, take, drop, nat_eq, nat_lt, Option, Some, None, if◌then◌else◌}

-- a character's number in UTF-8
abbrev pub encoded : ℕ → List ℕ
encoded c =
    elim (nat_lt c 128) [
      | true ↦ c ∷ []
      | false ↦ elim (nat_lt c 2048) [
        | true ↦ (192 + c / 64) ∷ (128 + c % 64) ∷ []
        | false ↦ elim (nat_lt c 65536) [
          | true ↦ (224 + c / 4096) ∷ (128 + c / 64 % 64) ∷ (128 + c % 64) ∷ []
          | false ↦ (240 + c / 262144) ∷ (128 + c / 4096 % 64) ∷ (128 + c / 64 % 64) ∷ (128 + c % 64) ∷ []
        ]
      ]
    ]

-- a unit that is a character of its own, or the first or the second of a surrogate pair
pub data UnitKind : Type 0 where
  Alone : UnitKind
  First : UnitKind
  Second : UnitKind

abbrev pub kind_of_unit : ℕ → UnitKind
kind_of_unit u = elim (nat_eq (u / 1024) 54) [ true ↦ First | false ↦ elim (nat_eq (u / 1024) 55) [ true ↦ Second | false ↦ Alone ] ]

-- the character of a pair
abbrev pub paired : ℕ → ℕ → ℕ
paired first second = 65536 + first % 1024 * 1024 + second % 1024

-- after the first of a pair, if there is one; a surrogate without its partner is a question mark
abbrev pub utf8_after : Option ℕ → List ℕ → List ℕ
utf8_after None [] = []
utf8_after (Some first) [] = 63 ∷ []
utf8_after None (u ∷ us) =
    elim (kind_of_unit u) [ Alone ↦ encoded u ++ utf8_after None us | First ↦ utf8_after (Some u) us | Second ↦ 63 ∷ utf8_after None us ]
utf8_after (Some first) (u ∷ us) =
    elim (kind_of_unit u) [
      | Alone ↦ 63 ∷ encoded u ++ utf8_after None us
      | First ↦ 63 ∷ utf8_after (Some u) us
      | Second ↦ encoded (paired first u) ++ utf8_after None us
    ]

-- the bytes of units
abbrev pub utf8 : List ℕ → List ℕ
utf8 us = utf8_after None us

abbrev pub dotted : ℕ → ℕ
dotted b = if nat_eq b 47 then 46 else b

-- a class's descriptor as Java names the class: without its first and its last byte, and with a dot for each slash
abbrev pub java_text : List ℕ → List ℕ
java_text class = map dotted (take (length class - 2) (drop 1 class))
