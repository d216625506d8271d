-- What names by number say stays when more are added behind them.
use Rattle.std.proofs.Common.{◌≡◌, ◌+◌, ◌-◌, ◌<◌, ◌≤◌, ◌++◌, ℕ, Bool, true, false, List, [], length, refl, sym, ap, ◌∙◌, arith, append_assoc, append-nil, length-append}
use Rattle.std.specs.Prelude.{nat_lt, slice_index_or}
use Rattle.std.proofs.lemmas.List.{get_or_append_left}
use Rattle.dv_defs.specs.declared.names.Base.{Base}
use Rattle.dv_defs.specs.declared.names.Base.TheVariants as base
use Rattle.dv_defs.specs.declared.names.Ty.{Ty}
use Rattle.dv_defs.specs.Images.{Image}
use Rattle.dv_defs.specs.Pools.{name_at}
use Rattle.dv_typing.specs.declared.typing.RegType.TheVariants as ty
use Rattle.dv_bases.specs.declared.words.Reference.{Reference}
use Rattle.dv_bases.specs.declared.words.Part.{Part}
use Rattle.dv_bases.specs.declared.words.Part.TheVariants as part
use Rattle.dv_bases.specs.Words.{part_in}
use Rattle.dv_bases.specs.Bases.{Names, class_count, base_count, primitives, name_of, base_of, type_of, type_in, word_type, IsNumbered, IsPart, IsWord, IsWider}

pub wider_same : (names : Names) → IsWider names names
wider_same names = record { image = refl; behind = []; more = sym (append-nil names.more) }

pub wider_trans : (a b c : Names) → IsWider a b → IsWider b c → IsWider a c
wider_trans a b c one two =
    record {
      image = two.image ∙ one.image;
      behind = one.behind ++ two.behind;
      more = two.more ∙ (ap (λ ns. ns ++ two.behind) one.more ∙ append_assoc a.more one.behind two.behind);
    }

abbrev names_with : Image → List (List ℕ) → Names
names_with image more = record { image = image; more = more }

abbrev chosen : Names → List (List ℕ) → ℕ → Bool → List ℕ
chosen names more c inside = elim inside [ true ↦ name_at names.image c | false ↦ slice_index_or more (c - class_count names) [] ]

among : (names : Names) (behind : List (List ℕ)) (c : ℕ) → c < class_count names + length names.more → (inside : Bool) → nat_lt c (class_count names) ≡ inside →
    chosen names (names.more ++ behind) c inside ≡ chosen names names.more c inside
among names behind c within true is = refl
among names behind c within false is =
    get_or_append_left names.more behind [] (c - class_count names) (let past : class_count names ≤ c = grind (arith, is) in omega (arith, within, past))

name_stays : (names : Names) (behind : List (List ℕ)) (c : ℕ) → c < class_count names + length names.more → name_of (names_with names.image (names.more ++ behind)) c ≡ name_of names c
name_stays names behind c within = among names behind c within (nat_lt c (class_count names)) refl

abbrev of_kind : Names → ℕ → Bool → Base
of_kind names k few = elim few [ true ↦ slice_index_or primitives k base.Z | false ↦ base.Class (name_of names (k - 6)) ]

module _ (old new : Names) (wider : IsWider old new) where
  name_wider : (c : ℕ) → c < class_count old + length old.more → name_of new c ≡ name_of old c
  name_wider c within =
      (λ j. name_of (names_with (wider.image j) (wider.more j)) c) ∙ name_stays old wider.behind c within

  by_kind : (k : ℕ) (few : Bool) → nat_lt k 6 ≡ few → k < base_count old → of_kind new k few ≡ of_kind old k few
  by_kind k true is within = refl
  by_kind k false is within = ap base.Class (name_wider (k - 6) (let past : 6 ≤ k = grind (arith, is) in omega (arith, within, past)))

  pub base_wider : (k : ℕ) → k < base_count old → base_of new k ≡ base_of old k
  base_wider k within = by_kind k (nat_lt k 6) refl within

  pub type_wider : (r : Reference) → IsNumbered old r → type_of new r ≡ type_of old r
  type_wider r numbered =
      let made : Base → Ty = λ b. record { dims = r.dims; base = b } in
      ap made (base_wider r.base numbered)

  count_wider : base_count old ≤ base_count new
  count_wider =
      let classes : class_count new ≡ class_count old = ap (λ (i : Image). length i.classes) wider.image in
      let more : length new.more ≡ length old.more + length wider.behind = ap length wider.more ∙ length-append old.more wider.behind in
      omega (arith, classes, more)

  pub numbered_wider : (r : Reference) → IsNumbered old r → IsNumbered new r
  numbered_wider r numbered = let more = count_wider in omega (arith, numbered, more)

  part_wider : (p : Part) → IsPart old p → type_in new p ≡ type_in old p
  part_wider (part.Class r) numbered = ap ty.Class (type_wider r numbered)
  part_wider (part.Uninit at) is = refl
  part_wider part.Conflict is = refl
  part_wider part.Zero is = refl
  part_wider part.Int is = refl
  part_wider part.LongLo is = refl
  part_wider part.LongHi is = refl
  part_wider part.UninitThis is = refl

  is_part_wider : (p : Part) → IsPart old p → IsPart new p
  is_part_wider (part.Class r) numbered = numbered_wider r numbered
  is_part_wider (part.Uninit at) is = is
  is_part_wider part.Conflict is = tt
  is_part_wider part.Zero is = tt
  is_part_wider part.Int is = tt
  is_part_wider part.LongLo is = tt
  is_part_wider part.LongHi is = tt
  is_part_wider part.UninitThis is = tt

  -- a word says the same
  pub word_wider : (word : ℕ) → IsWord old word → word_type new word ≡ word_type old word
  word_wider word is = part_wider (part_in word) is

  pub is_word_wider : (word : ℕ) → IsWord old word → IsWord new word
  is_word_wider word is = is_part_wider (part_in word) is
