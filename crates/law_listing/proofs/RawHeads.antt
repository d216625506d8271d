-- What the lines of a raw body begin with.
use Rattle.std.proofs.Common.{◌≡◌, ℕ, ◌%◌, ◌/◌, ◌==◌, true, false, List, [], ◌∷◌, Option, Some, None, refl, arith}
use Rattle.std.specs.Prelude.{codes}
use Rattle.std.specs.List.{list_all}
use Rattle.std.proofs.lemmas.Bool.{and_parts, cond_both}
use Rattle.std.proofs.lemmas.Bool.Decides.{nat_tests}
use Rattle.dv_names.specs.Written.{digit, hexadecimal}
use Rattle.dv_lex.specs.Bytes.{is_hexadecimal}
use Rattle.dv_optable.specs.Table.{opcode_named}
use Rattle.dv_coderead.specs.declared.head.Block.TheVariants.{Units}
use Rattle.dv_coderead.specs.declared.head.Directive.TheVariants as directive
use Rattle.dv_coderead.specs.declared.head.Head.{Head}
use Rattle.dv_coderead.specs.declared.head.Head.TheVariants as head
use Rattle.dv_coderead.specs.Heads.{class_directive, directive_of, ended_by, first_word, head_of, insn_head, is_float_name, is_skipped, method_directive, raw_directive, skipped_directive, two_word_directive, word_head}
use Rattle.dv_coderead.specs.Pieces.{Piece, AWord}
use Rattle.dv_coderead.specs.Words.{begins_with}
use Rattle.dv_classread.specs.Texts.{ends_method, leaves_method}
use Rattle.law_listing.specs.RawPieces.{unit_piece}
use Rattle.law_listing.proofs.Words.{hexadecimal_digits}

pub ref_head : (ps : List Piece) → head_of (AWord (codes ".rawref") ∷ ps) ≡ head.Directive directive.Rawref
unfolding head_of directive_of class_directive method_directive raw_directive
ref_head ps = refl

pub units_head : head_of (AWord (codes ".units") ∷ []) ≡ head.Directive (directive.Begin Units)
unfolding head_of directive_of class_directive method_directive raw_directive
units_head = refl

pub units_end_head : head_of (AWord (codes ".end") ∷ AWord (codes "units") ∷ []) ≡ head.Directive (directive.End Units)
unfolding head_of directive_of class_directive method_directive raw_directive skipped_directive is_skipped two_word_directive ended_by
units_end_head = refl

pub try_head : (ps : List Piece) → head_of (AWord (codes ".rawtry") ∷ ps) ≡ head.Directive directive.Rawtry
unfolding head_of directive_of class_directive method_directive raw_directive
try_head ps = refl

-- ---- units

-- the head of an instruction, or of no line that is known
abbrev pub IsOther : Head → Type 0
IsOther (head.Opcode op) = Unit {0}
IsOther head.Float = Unit {0}
IsOther head.Other = Unit {0}
IsOther h = ⊥

other_inside : (h : Head) → IsOther h → (ends_method h ≡ false) × (leaves_method h ≡ false)
other_inside (head.Opcode op) is = (refl, refl)
other_inside head.Float is = (refl, refl)
other_inside head.Other is = (refl, refl)
other_inside h is = absurd is

no_mark : (b : ℕ) → is_hexadecimal b ≡ true → ((b == 46) ≡ false) × ((b == 58) ≡ false)
no_mark b is = (grind (arith, nat_tests), grind (arith, nat_tests))

insn_other : (o : Option ℕ) (w : List ℕ) → IsOther (insn_head o w)
insn_other (Some op) w = tt
insn_other None w = cond_both (is_float_name w) head.Float head.Other IsOther (λ e. tt) (λ e. tt)

pub word_other : (w : List ℕ) (second : Option (List ℕ)) → begins_with 46 w ≡ false → begins_with 58 w ≡ false → IsOther (word_head w second)
word_other w second dot colon = rw dot (rw colon (insn_other (opcode_named w) w))

pub unit_head : (u : ℕ) (ps : List Piece) → IsOther (head_of (unit_piece u ∷ ps))
unfolding head_of
unit_head u ps =
    let first = digit (u / 4096 % 16) in
    let rest : List ℕ = digit (u / 256 % 16) ∷ digit (u / 16 % 16) ∷ digit (u % 16) ∷ [] in
    let p = and_parts (is_hexadecimal first) (list_all is_hexadecimal rest) (hexadecimal_digits u) in
    let none = no_mark first p.0 in
    word_other (hexadecimal u) (first_word ps) none.0 none.1
