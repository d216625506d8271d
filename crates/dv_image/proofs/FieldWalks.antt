-- Steps of the search for a field.
use Rattle.std.proofs.Common.{◌≡◌, ◌-◌, ◌<◌, ◌≤◌, ℕ, zero, suc, List, ◌∷◌, Option, Some, None, refl, ap, sym, ◌∙◌, arith}
use Rattle.std.specs.Prelude.{flat_map}
use Rattle.std.specs.Option.{option_or}
use Rattle.dv_defs.specs.declared.names.FieldId.{FieldId}
use Rattle.dv_defs.specs.Images.{Image}
use Rattle.dv_defs.specs.First.{first_in}
use Rattle.dv_defs.specs.Pools.{Field, walk, parent_at}
use Rattle.dv_defs.specs.LookUp.{interfaces_above, once}
use Rattle.law_linking.specs.FieldPlaces.{id_of}
use Rattle.law_linking.proofs.Upward.{first_in_append}

-- a class and the interfaces above it
abbrev pub along : Image → ℕ → List ℕ
along image s = s ∷ once (interfaces_above image s)

-- what is found among classes and the interfaces above each
unfoldable pub found_in : Image → (ℕ → Option Field) → List ℕ → Option FieldId
found_in image f cs = id_of (first_in f (flat_map (along image) cs))

-- what the first gives, if it gives something
pub own_found : (o p : Option Field) (id : FieldId) → Some id ≡ id_of o → Some id ≡ id_of (option_or o p)
own_found None p id is = absurd (cc)
own_found (Some f) p id is = is

pub own_missing : (o p : Option Field) → None ≡ id_of o → id_of (option_or o p) ≡ id_of p
own_missing None p is = refl
own_missing (Some f) p is = absurd (cc)

in_parts : (image : Image) (f : ℕ → Option Field) (c : ℕ) (cs : List ℕ) → found_in image f (c ∷ cs) ≡ id_of (option_or (first_in f (along image c)) (first_in f (flat_map (along image) cs)))
unfolding found_in
in_parts image f c cs = ap id_of (first_in_append f (along image c) (flat_map (along image) cs))

pub found_on : (image : Image) (f : ℕ → Option Field) (left c : ℕ) → 0 < left → None ≡ id_of (first_in f (along image c)) → found_in image f (walk image left (Some c)) ≡ found_in image f (walk image (left - 1) (parent_at image c))
unfolding found_in
found_on image f zero c some none = absurd (omega arith)
found_on image f (suc n) c some none =
    let less : suc n - 1 ≡ n = omega arith in
    let cs : List ℕ = walk image n (parent_at image c) in
    rw less (in_parts image f c cs ∙ own_missing (first_in f (along image c)) (first_in f (flat_map (along image) cs)) none)

pub found_here : (image : Image) (f : ℕ → Option Field) (left c : ℕ) (id : FieldId) → 0 < left → Some id ≡ id_of (first_in f (along image c)) → Some id ≡ found_in image f (walk image left (Some c))
found_here image f zero c id some there = absurd (omega arith)
found_here image f (suc n) c id some there =
    let cs : List ℕ = walk image n (parent_at image c) in
    own_found (first_in f (along image c)) (first_in f (flat_map (along image) cs)) id there ∙ sym (in_parts image f c cs)

pub found_top : (image : Image) (f : ℕ → Option Field) (left : ℕ) → found_in image f (walk image left None) ≡ None
unfolding found_in
found_top image f zero = refl
found_top image f (suc n) = refl

pub found_done : (image : Image) (f : ℕ → Option Field) (left : ℕ) (at : Option ℕ) → left ≤ 0 → found_in image f (walk image left at) ≡ None
unfolding found_in
found_done image f zero at none = refl
found_done image f (suc n) at none = absurd (omega arith)
