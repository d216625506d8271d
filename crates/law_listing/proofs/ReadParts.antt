-- Parts of lines whose pieces can be listed.
use Rattle.std.proofs.Common.{ℕ, ◌==◌, Bool, true, false, List, [], ◌∷◌, Ok, Err, IfOk, Result}
use Rattle.std.specs.Prelude.{bytes_eq, codes, if◌then◌else◌}
use Rattle.std.specs.Str.{IsUtf8}
use Rattle.std.proofs.lemmas.List.Elements.{All-head, All-tail}
use Rattle.dv_defs.specs.declared.faults.LineKind.{LineKind}
use Rattle.dv_coderead.specs.Pieces.{Piece, AWord, AMark, AString, ACharacter}
use Rattle.dv_coderead.specs.Operands.{Part, alone, and_behind, after_first, comma_at, dots_at, ended, mark_at, word_at}
use Rattle.law_listing.specs.ReadLaws.{IsPieceText, ArePieceTexts}
use Rattle.dv_coderead.proofs.FormedParts.{after as after_any}

-- the pieces behind the first
pub behind_text : (p : Piece) (ps : List Piece) → ArePieceTexts (p ∷ ps) → ArePieceTexts ps
behind_text p ps are = All-tail IsPieceText p ps are

pub behind_texts : (ps : List Piece) → ArePieceTexts ps → ArePieceTexts (after_first ps)
behind_texts [] are = are
behind_texts (p ∷ ps) are = behind_text p ps are

-- the word that is first
pub word_text : (w : List ℕ) (ps : List Piece) → ArePieceTexts (AWord w ∷ ps) → IsUtf8 w
word_text w ps are = All-head IsPieceText (AWord w) ps are

-- a part that is such, with pieces behind it that can be listed
abbrev pub GivesPart : {A : Type 0} → (A → Type 0) → Part A → Type 0
GivesPart P read = IfOk read (λ x. P x.0 × ArePieceTexts x.1)

-- what stands behind a part can be listed
abbrev pub LeavesTexts : Result (List Piece) LineKind → Type 0
LeavesTexts read = IfOk read ArePieceTexts

module _ {A : Type 0} (P : A → Type 0) where
  pub with_rest : (ps : List Piece) (read : Result A LineKind) → ArePieceTexts ps → IfOk read P → GivesPart P (and_behind ps read)
  with_rest ps (Ok x) are is = (is, are)
  with_rest ps (Err k) are is = tt

  -- what comes first is such, if each word in UTF-8 is
  pub of_word : (f : List ℕ → Result A LineKind) → ((w : List ℕ) → IsUtf8 w → IfOk (f w) P) → (ps : List Piece) → ArePieceTexts ps → GivesPart P (word_at f ps)
  of_word f is [] are = tt
  of_word f is (AWord w ∷ ps) are = with_rest ps (f w) (behind_text (AWord w) ps are) (is w (word_text w ps are))
  of_word f is (AMark b ∷ ps) are = tt
  of_word f is (AString units ∷ ps) are = tt
  of_word f is (ACharacter unit ∷ ps) are = tt

  -- a whole line is such, if its part is
  pub of_alone : (read : Part A) → GivesPart P read → IfOk (alone read) P
  of_alone (Ok x) is = after_any P (ended x.1) _ (λ _. is.0)
  of_alone (Err k) is = tt

  -- one of two readings is such, if both are
  pub either : (t : Bool) (one other : Result A LineKind) → IfOk one P → IfOk other P → IfOk (if t then one else other) P
  either true one other here there = here
  either false one other here there = there

pub mark_leaves : (b : ℕ) (ps : List Piece) → ArePieceTexts ps → LeavesTexts (mark_at b ps)
mark_leaves b [] are = tt
mark_leaves b (AWord w ∷ ps) are = tt
mark_leaves b (AMark c ∷ ps) are = either ArePieceTexts (c == b) _ _ (behind_text (AMark c) ps are) tt
mark_leaves b (AString units ∷ ps) are = tt
mark_leaves b (ACharacter unit ∷ ps) are = tt

pub comma_leaves : (ps : List Piece) → ArePieceTexts ps → LeavesTexts (comma_at ps)
comma_leaves ps are = mark_leaves 44 ps are

pub dots_leave : (ps : List Piece) → ArePieceTexts ps → LeavesTexts (dots_at ps)
dots_leave [] are = tt
dots_leave (AWord w ∷ ps) are = either ArePieceTexts (bytes_eq w (codes "..")) _ _ (behind_text (AWord w) ps are) tt
dots_leave (AMark b ∷ ps) are = tt
dots_leave (AString units ∷ ps) are = tt
dots_leave (ACharacter unit ∷ ps) are = tt
