-- The flags that stand in front of a line.
use Rattle.std.proofs.Common.{◌≡◌, ℕ, ◌+◌, ◌-◌, ◌/◌, ◌%◌, ◌^◌, ◌<◌, ◌≤◌, true, false, List, [], ◌∷◌, length, take, drop, slice_index_or, Bor, Option, Some, None, Ok, Err, nat_eq, refl, sym, ap, subst, ◌∙◌, arith}
use Rattle.std.proofs.lemmas.Bool.{cond-false, cond-true, eqb-false}
use Rattle.std.proofs.lemmas.List.{take_all}
use Rattle.dv_defs.specs.declared.faults.LineKind.TheVariants.{Repeated}
use Rattle.dv_defs.specs.declared.flags.Flag.{Flag}
use Rattle.dv_defs.specs.declared.flags.Flag.TheVariants as flag
use Rattle.dv_defs.specs.Flags.{bit_of, has_flag}
use Rattle.dv_coderead.specs.declared.pieces.Piece.{Piece as CodePiece}
use Rattle.dv_coderead.specs.declared.pieces.Piece.TheVariants as code
use Rattle.dv_coderead.specs.Pieces.{pieces_in}
use Rattle.dv_coderead.specs.Operands.{Part}
use Rattle.dv_classread.specs.ClassLines.{and_bit, flag_of, flags_at, with_flag}

-- ---- bits

-- what is no odd number is even
even_by : (n : ℕ) → nat_eq (n % 2) 1 ≡ false → n % 2 ≡ 0
even_by n out = let other = eqb-false (n % 2) 1 out in omega arith

-- a flag that is not among flags has its bit free
pub bit_free : (f : Flag) (flags : ℕ) → flags < 2 ^ 19 → has_flag flags f ≡ false → flags + 2 ^ bit_of f < 2 ^ 19
bit_free flag.Public flags small out = let even = even_by (flags / 2 ^ 0) out in omega arith
bit_free flag.Private flags small out = let even = even_by (flags / 2 ^ 1) out in omega arith
bit_free flag.Protected flags small out = let even = even_by (flags / 2 ^ 2) out in omega arith
bit_free flag.Static flags small out = let even = even_by (flags / 2 ^ 3) out in omega arith
bit_free flag.Final flags small out = let even = even_by (flags / 2 ^ 4) out in omega arith
bit_free flag.Synchronized flags small out = let even = even_by (flags / 2 ^ 5) out in omega arith
bit_free flag.Volatile flags small out = let even = even_by (flags / 2 ^ 6) out in omega arith
bit_free flag.Bridge flags small out = let even = even_by (flags / 2 ^ 7) out in omega arith
bit_free flag.Transient flags small out = let even = even_by (flags / 2 ^ 8) out in omega arith
bit_free flag.Varargs flags small out = let even = even_by (flags / 2 ^ 9) out in omega arith
bit_free flag.Native flags small out = let even = even_by (flags / 2 ^ 10) out in omega arith
bit_free flag.Interface flags small out = let even = even_by (flags / 2 ^ 11) out in omega arith
bit_free flag.Abstract flags small out = let even = even_by (flags / 2 ^ 12) out in omega arith
bit_free flag.Strictfp flags small out = let even = even_by (flags / 2 ^ 13) out in omega arith
bit_free flag.Synthetic flags small out = let even = even_by (flags / 2 ^ 14) out in omega arith
bit_free flag.Annotation flags small out = let even = even_by (flags / 2 ^ 15) out in omega arith
bit_free flag.Enum flags small out = let even = even_by (flags / 2 ^ 16) out in omega arith
bit_free flag.Constructor flags small out = let even = even_by (flags / 2 ^ 17) out in omega arith
bit_free flag.DeclaredSynchronized flags small out = let even = even_by (flags / 2 ^ 18) out in omega arith

-- so more flags stay few
pub flags_small : (f : Flag) (flags bit : ℕ) → flags < 2 ^ 19 → has_flag flags f ≡ false → bit ≡ 2 ^ bit_of f → flags + bit < 2 ^ 19
flags_small f flags bit small out is = subst (λ n. flags + n < 2 ^ 19) (sym is) (bit_free f flags small out)

-- ---- pieces

-- the pieces behind the first, as code takes them
abbrev behind_first : List CodePiece → List CodePiece
behind_first ps = take (length ps - 1) (drop 1 ps)

-- all pieces but the first stand behind it
behind_is : (p : CodePiece) (ps : List CodePiece) → behind_first (p ∷ ps) ≡ ps
behind_is p ps = take_all _ ps (omega arith)

module _ (flags : ℕ) where
  -- no flag stands in front of nothing
  pub nothing_in_front : (ps : List CodePiece) → length ps < 1 → flags_at flags (pieces_in ps) ≡ Ok (flags, pieces_in ps)
  unfolding flags_at
  nothing_in_front [] none = refl
  nothing_in_front (p ∷ ps) none = absurd (omega arith)

  -- no flag stands in front of what is no word
  no_word : (ps : List CodePiece) (p : CodePiece) → ((w : Bor (List ℕ)) → p ≡ code.Word w → ⊥) → flags_at flags (pieces_in (p ∷ ps)) ≡ Ok (flags, pieces_in (p ∷ ps))
  unfolding flags_at
  no_word ps (code.Word w) other = absurd (other w refl)
  no_word ps (code.Mark b) other = refl
  no_word ps (code.Str units) other = refl
  no_word ps (code.Char unit) other = refl

  -- what is no word is no flag
  pub other_in_front : (ps : List CodePiece) (p : CodePiece) → 1 ≤ length ps → p ≡ slice_index_or ps 0 p → ((w : Bor (List ℕ)) → p ≡ code.Word w → ⊥)
      → flags_at flags (pieces_in ps) ≡ Ok (flags, pieces_in ps)
  other_in_front [] p some is other = absurd (omega arith)
  other_in_front (q ∷ ps) p some is other = no_word ps q (λ w e. other w (is ∙ e))

  -- the flags in front by what the first word is
  abbrev read_by : List CodePiece → Option Flag → Part ℕ
  read_by ps o = with_flag flags o (Ok (flags, pieces_in ps)) (flags_at (and_bit flags o) (pieces_in (behind_first ps)))

  -- in front of a word its flag counts, if it has one
  word_read : (ps : List CodePiece) (w : Bor (List ℕ)) → flags_at flags (pieces_in (code.Word w ∷ ps)) ≡ read_by (code.Word w ∷ ps) (flag_of w.now)
  unfolding flags_at
  word_read ps w = rw behind_is refl

  -- the same where the word is the first of some pieces
  word_in_front : (ps : List CodePiece) (p : CodePiece) (w : Bor (List ℕ)) → 1 ≤ length ps → p ≡ slice_index_or ps 0 p → p ≡ code.Word w
      → flags_at flags (pieces_in ps) ≡ read_by ps (flag_of w.now)
  word_in_front [] p w some is word = absurd (omega arith)
  word_in_front (q ∷ ps) p w some is word = let same : q ≡ code.Word w = cc in rw same (word_read ps w)

  module _ (ps : List CodePiece) (p : CodePiece) (w : Bor (List ℕ)) (some : 1 ≤ length ps) (is : p ≡ slice_index_or ps 0 p) (word : p ≡ code.Word w) where
    -- the same by the flag that the word has
    found_in_front : (o : Option Flag) → flag_of w.now ≡ o → flags_at flags (pieces_in ps) ≡ read_by ps o
    found_in_front o found = word_in_front ps p w some is word ∙ ap (read_by ps) found

    -- a word that is no flag
    pub no_flag_in_front : flag_of w.now ≡ None → flags_at flags (pieces_in ps) ≡ Ok (flags, pieces_in ps)
    no_flag_in_front none = found_in_front None none

    -- a flag that stands before is refused
    pub flag_again : (f : Flag) → flag_of w.now ≡ Some f → has_flag flags f ≡ true → flags_at flags (pieces_in ps) ≡ Err Repeated
    flag_again f found again = found_in_front (Some f) found ∙ cond-true (has_flag flags f) _ _ again

    -- any other is added
    pub flag_more : (f : Flag) (bit : ℕ) → flag_of w.now ≡ Some f → has_flag flags f ≡ false → bit ≡ 2 ^ bit_of f
        → flags_at flags (pieces_in ps) ≡ flags_at (flags + bit) (pieces_in (behind_first ps))
    flag_more f bit found new is =
        found_in_front (Some f) found ∙ cond-false (has_flag flags f) _ _ new ∙ ap (λ n. flags_at (flags + n) (pieces_in (behind_first ps))) (sym is)
