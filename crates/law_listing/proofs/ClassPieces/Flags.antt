-- Flags as they are printed, and read again.
use Rattle.std.proofs.Common.{◌≡◌, ℕ, ◌+◌, ◌*◌, ◌/◌, ◌%◌, ◌^◌, ◌==◌, Bool, true, false, ◌&&◌, nat_eq, List, [], ◌∷◌, ◌++◌, length, Some, None, Ok, inl, inr, refl, sym, ap, ◌∙◌, subst, append_assoc, arith}
use Rattle.std.specs.Prelude.{nat_lt, bytes_eq}
use Rattle.std.specs.List.{flat_map, list_all}
use Rattle.std.proofs.lemmas.Bool.{and_parts, cases_Bool, eqb-false, eqb-true, false_from_ne_true, true≢false}
use Rattle.std.proofs.lemmas.Nat.{mod-pow-add, mod_below, pow_pos}
use Rattle.std.proofs.Math.Nat.{div-eq_of_lt}
use Rattle.std.proofs.lemmas.Slice.Eq.{bytes_eq-Decides}
use Rattle.dv_defs.specs.declared.flags.Flag.{Flag}
use Rattle.dv_defs.specs.declared.flags.Flag.TheVariants as flag
use Rattle.dv_defs.specs.Flags.{bit_of, has_flag}
use Rattle.dv_print.specs.Listing.{all_flags, flag_text, flag_word, flags_text}
use Rattle.dv_coderead.specs.Pieces.{Piece, AWord}
use Rattle.dv_coderead.proofs.Lacking.{lacks}
use Rattle.dv_classread.specs.ClassLines.{flag_of, flags_at}
use Rattle.law_listing.specs.ClassPieces.{HasKnownFlags, flag_piece, flag_pieces}
use Rattle.law_listing.specs.Printed.{HasPieces}
use Rattle.law_listing.proofs.Pieces.{same_text, word_blank}
use Rattle.law_listing.proofs.Words.{IsWordText, constant, is_simple}

-- ---- words

flag_is_simple : (f : Flag) → (nat_lt 0 (length (flag_word f)) && list_all is_simple (flag_word f)) ≡ true
flag_is_simple flag.Public = refl
flag_is_simple _ = refl

pub flag_word_text : (f : Flag) → IsWordText (flag_word f)
flag_word_text f = constant (flag_word f) (flag_is_simple f)

-- ---- printed

one_flag : (flags : ℕ) (f : Flag) (rest : List ℕ) (ps : List Piece) → HasPieces rest ps → HasPieces (flag_text flags f ++ rest) (flag_piece flags f ++ ps)
one_flag flags f rest ps h =
    elim (cases_Bool (has_flag flags f)) [
      | inl is ↦ rw is (same_text (flag_word f ++ 32 ∷ [] ++ rest) (flag_word f ++ 32 ∷ rest) (AWord (flag_word f) ∷ ps) (append_assoc (flag_word f) (32 ∷ []) rest)
          (word_blank (flag_word f) rest ps (flag_word_text f).0 (flag_word_text f).1 h))
      | inr other ↦ rw other h
    ]

some_flags : (flags : ℕ) (fs : List Flag) (rest : List ℕ) (ps : List Piece) → HasPieces rest ps → HasPieces (flat_map (flag_text flags) fs ++ rest) (flat_map (flag_piece flags) fs ++ ps)
some_flags flags [] rest ps h = h
some_flags flags (f ∷ fs) rest ps h =
    let more = some_flags flags fs rest ps h in
    let first = one_flag flags f (flat_map (flag_text flags) fs ++ rest) (flat_map (flag_piece flags) fs ++ ps) more in
    rw (append_assoc (flag_text flags f) (flat_map (flag_text flags) fs) rest, append_assoc (flag_piece flags f) (flat_map (flag_piece flags) fs) ps) first

-- the flags in front of a line
pub flags_stand : (flags : ℕ) (rest : List ℕ) (ps : List Piece) → HasPieces rest ps → HasPieces (flags_text flags ++ rest) (flag_pieces flags ++ ps)
flags_stand flags rest ps h = some_flags flags all_flags rest ps h

-- ---- read

pub flag_read : (f : Flag) → flag_of (flag_word f) ≡ Some f
unfolding flag_of
flag_read flag.Public = refl
flag_read _ = refl

-- another word is no flag
word_apart : (w v : List ℕ) → (w ≡ v → ⊥) → bytes_eq w v ≡ false
word_apart w v never = false_from_ne_true (bytes_eq w v) (λ e. never ((bytes_eq-Decides w v).0 e))

pub no_flag : (w : List ℕ) → ((f : Flag) → w ≡ flag_word f → ⊥) → flag_of w ≡ None
unfolding flag_of
no_flag w never =
    let apart : (f : Flag) → bytes_eq w (flag_word f) ≡ false = λ f. word_apart w (flag_word f) (never f) in
    rw (
      apart flag.Public,
      apart flag.Private,
      apart flag.Protected,
      apart flag.Static,
      apart flag.Final,
      apart flag.Synchronized,
      apart flag.Volatile,
      apart flag.Bridge,
      apart flag.Transient,
      apart flag.Varargs,
      apart flag.Native,
      apart flag.Interface,
      apart flag.Abstract,
      apart flag.Strictfp,
      apart flag.Synthetic,
      apart flag.Annotation,
      apart flag.Enum,
      apart flag.Constructor,
      apart flag.DeclaredSynchronized,
    ) refl

-- no flag has a colon, a parenthesis or an L
flag_lacks : (f : Flag) → (lacks 58 (flag_word f) ≡ true) × (lacks 40 (flag_word f) ≡ true) × (lacks 76 (flag_word f) ≡ true)
flag_lacks flag.Public = (refl, refl, refl)
flag_lacks _ = (refl, refl, refl)

no_flag_by : (c : ℕ) (w : List ℕ) → ((f : Flag) → lacks c (flag_word f) ≡ true) → lacks c w ≡ false → flag_of w ≡ None
no_flag_by c w each has = no_flag w (λ f e. true≢false (sym (each f) ∙ ap (lacks c) (sym e) ∙ has))

pub no_flag_colon : (w : List ℕ) → lacks 58 w ≡ false → flag_of w ≡ None
no_flag_colon w has = no_flag_by 58 w (λ f. (flag_lacks f).0) has

pub no_flag_parenthesis : (w : List ℕ) → lacks 40 w ≡ false → flag_of w ≡ None
no_flag_parenthesis w has = no_flag_by 40 w (λ f. (flag_lacks f).1) has

pub no_flag_class : (w : List ℕ) → lacks 76 w ≡ false → flag_of w ≡ None
no_flag_class w has = no_flag_by 76 w (λ f. (flag_lacks f).2) has

-- a word that is no flag ends the flags
ends_flags : (flags : ℕ) (w : List ℕ) (ps : List Piece) → flag_of w ≡ None → flags_at flags (AWord w ∷ ps) ≡ Ok (flags, AWord w ∷ ps)
unfolding flags_at
ends_flags flags w ps none = rw none refl

next_flag : (flags : ℕ) (f : Flag) (ps : List Piece) → has_flag flags f ≡ false → flags_at flags (AWord (flag_word f) ∷ ps) ≡ flags_at (flags + 2 ^ bit_of f) ps
unfolding flags_at
next_flag flags f ps new = rw (flag_read f, new) refl

-- the bits below one, with it or without it
low_bits : (n k : ℕ) → n % 2 ^ (k + 1) ≡ n / 2 ^ k % 2 * 2 ^ k + n % 2 ^ k
low_bits n k = ap (λ j. n % 2 ^ j) (omega arith) ∙ mod-pow-add n 1 k

-- a bit is not among lower bits
bit_new : (n k : ℕ) → nat_eq (n % 2 ^ k / 2 ^ k % 2) 1 ≡ false
bit_new n k =
    let zero_is : n % 2 ^ k / 2 ^ k ≡ 0 = div-eq_of_lt (mod_below n (2 ^ k) (pow_pos k)) in
    ap (λ q. nat_eq (q % 2) 1) zero_is

not_one : (n : ℕ) → nat_eq (n % 2) 1 ≡ false → n % 2 ≡ 0
not_one n e = let other = eqb-false (n % 2) 1 e in omega arith

one_more : (n k : ℕ) → nat_eq (n / 2 ^ k % 2) 1 ≡ true → n % 2 ^ k + 2 ^ k ≡ n % 2 ^ (k + 1)
one_more n k e =
    let one : n / 2 ^ k % 2 ≡ 1 = eqb-true (n / 2 ^ k % 2) 1 e in
    let whole : n % 2 ^ (k + 1) ≡ 1 * 2 ^ k + n % 2 ^ k = low_bits n k ∙ ap (λ q. q * 2 ^ k + n % 2 ^ k) one in
    omega (arith, whole)

none_more : (n k : ℕ) → nat_eq (n / 2 ^ k % 2) 1 ≡ false → n % 2 ^ k ≡ n % 2 ^ (k + 1)
none_more n k e =
    let none : n / 2 ^ k % 2 ≡ 0 = not_one (n / 2 ^ k) e in
    let whole : n % 2 ^ (k + 1) ≡ 0 * 2 ^ k + n % 2 ^ k = low_bits n k ∙ ap (λ q. q * 2 ^ k + n % 2 ^ k) none in
    omega (arith, whole)

one_read : (flags : ℕ) (f : Flag) (ps : List Piece) → flags_at (flags % 2 ^ bit_of f) (flag_piece flags f ++ ps) ≡ flags_at (flags % 2 ^ (bit_of f + 1)) ps
one_read flags f ps =
    elim (cases_Bool (has_flag flags f)) [
      | inl is ↦ rw is (next_flag (flags % 2 ^ bit_of f) f ps (bit_new flags (bit_of f)) ∙ ap (λ n. flags_at n ps) (one_more flags (bit_of f) is))
      | inr other ↦ rw other (ap (λ n. flags_at n ps) (none_more flags (bit_of f) other))
    ]

-- flags in the order of their bits, from this on
abbrev are_in_order : ℕ → List Flag → Bool
are_in_order k [] = true
are_in_order k (f ∷ fs) = (bit_of f == k) && are_in_order (k + 1) fs

some_read : (flags k : ℕ) (fs : List Flag) (ps : List Piece) → are_in_order k fs ≡ true → flags_at (flags % 2 ^ k) (flat_map (flag_piece flags) fs ++ ps) ≡ flags_at (flags % 2 ^ (k + length fs)) ps
some_read flags k [] ps order = ap (λ n. flags_at (flags % 2 ^ n) ps) (omega arith)
some_read flags k (f ∷ fs) ps order =
    let p = and_parts (bit_of f == k) (are_in_order (k + 1) fs) order in
    let behind = flat_map (flag_piece flags) fs ++ ps in
    let next : k + 1 + length fs ≡ k + length (f ∷ fs) = omega arith in
    let first = subst (λ n. flags_at (flags % 2 ^ n) (flag_piece flags f ++ behind) ≡ flags_at (flags % 2 ^ (n + 1)) behind) (eqb-true (bit_of f) k p.0) (one_read flags f behind) in
    ap (flags_at (flags % 2 ^ k)) (append_assoc (flag_piece flags f) (flat_map (flag_piece flags) fs) ps) ∙ first ∙ some_read flags (k + 1) fs ps p.1
    ∙ ap (λ n. flags_at (flags % 2 ^ n) ps) next

-- printed flags are read as these flags, up to a word that is none
pub flags_read : (flags : ℕ) (w : List ℕ) (ps : List Piece) → HasKnownFlags flags → flag_of w ≡ None → flags_at 0 (flag_pieces flags ++ AWord w ∷ ps) ≡ Ok (flags, AWord w ∷ ps)
flags_read flags w ps known none =
    let start : 0 ≡ flags % 2 ^ 0 = omega arith in
    let whole : flags % 2 ^ 19 ≡ flags = omega arith in
    ap (λ n. flags_at n (flag_pieces flags ++ AWord w ∷ ps)) start ∙ some_read flags 0 all_flags (AWord w ∷ ps) refl
    ∙ ap (λ n. flags_at n (AWord w ∷ ps)) whole ∙ ends_flags flags w ps none
