-- The operands of what is fetched fit: constants have 32 bits, invokes name as many registers as there are argument words.
use Rattle.std.proofs.Common.{◌≡◌, ◌≢◌, ◌⊎◌, inl, inr, ℕ, zero, suc, ◌+◌, ◌-◌, ◌*◌, ◌/◌, ◌%◌, ◌^◌, ◌<◌, ◌≤◌, Bool, true, false, Option, Some, None, List, [], ◌∷◌, ℤ, pos, negsuc, mod-lt, lit<, refl, sym, ap, ◌∙◌, subst, arith}
use Rattle.std.specs.Prelude.{if◌then◌else◌, nat_eq, nat_lt}
use Rattle.std.specs.List.{list_all}
use Rattle.std.proofs.lemmas.Bool.{and_parts, cases_eq}
use Rattle.std.proofs.lemmas.Bool.Decides.{nat_tests}
use Rattle.std.proofs.lemmas.Option.{same_Some}
use Rattle.dv_defs.specs.declared.code.Insn.{Insn}
use Rattle.dv_defs.specs.Decoding.{Sized, high_literal, insn_here, read_by, read_in, sized, where_valid}
use Rattle.dv_defs.specs.Families.{Family, family_at}
use Rattle.dv_defs.specs.Formats.{Format, F10x, F12x, F11n, F11x, F10t, F20t, F22x, F21t, F21s, F21h, F21c, F23x, F22b, F22t, F22s, F22c, F30t, F32x, F31i, F31t, F31c, F35c, F3rc, F51l, format_at}
use Rattle.dv_defs.specs.Numbers.{signed_at}
use Rattle.dv_words.specs.Standing.{FitsInt}

-- ---- literals

signed_by : (half whole n : ℕ) → half ≤ 2 ^ 31 → whole ≡ 2 * half → FitsInt (elim (nat_lt n half) [ true ↦ pos n | false ↦ negsuc (whole - suc n) ])
signed_by half whole n few twice = by (nat_lt n half) refl
  where
    by : (c : Bool) → nat_lt n half ≡ c → FitsInt (elim c [ true ↦ pos n | false ↦ negsuc (whole - suc n) ])
    by true is = let l : n < half = grind (arith, nat_tests, is) in omega (arith, l, few)
    by false is =
        let l : half ≤ n = grind (arith, nat_tests, is) in
        let some : 0 < half ⊎ half ≡ 0 = positive half in
        bounded some l
      where
        positive : (h : ℕ) → (0 < h) ⊎ (h ≡ 0)
        positive zero = inr refl
        positive (suc h) = inl (omega arith)

        bounded : (0 < half) ⊎ (half ≡ 0) → half ≤ n → whole - suc n < 2 ^ 31
        bounded (inl more) l = omega (arith, l, few, twice, more)
        bounded (inr none) l = omega (arith, l, twice, none)

signed_4 : (n : ℕ) → FitsInt (signed_at 4 n)
signed_4 n = signed_by 8 16 n (omega arith) refl

pub signed_8 : (n : ℕ) → FitsInt (signed_at 8 n)
signed_8 n = signed_by 128 256 n (omega arith) refl

pub signed_16 : (n : ℕ) → FitsInt (signed_at 16 n)
signed_16 n = signed_by 32768 65536 n (omega arith) refl

pub signed_32 : (n : ℕ) → FitsInt (signed_at 32 n)
signed_32 n = signed_by 2147483648 4294967296 n (omega arith) refl

-- ---- the literal that an instruction has, by its format

-- of const/high16 the opcode tells it from const-wide/high16
abbrev LiteralFits : Format → ℕ → ℤ → Type 0
LiteralFits F51l op n = Unit {0}
LiteralFits F21h op n = nat_eq op 0x15 ≡ true → FitsInt n
LiteralFits f op n = FitsInt n

record IsLiteral (f : Format) (op : ℕ) (x : Sized) : Type 0 where
  pub opcode : x.insn.op ≡ op
  pub fits : LiteralFits f op x.insn.lit

is_literal : (f : Format) (op size : ℕ) (i : Insn) (x : Sized) → i.op ≡ op → LiteralFits f op i.lit → (let o : Option Sized = Some (record { insn = i; size = size }) in o) ≡ Some x → IsLiteral f op x
is_literal f op size i x same fits e = subst (IsLiteral f op) (same_Some (record { insn = i; size = size }) x e) (record { opcode = same; fits = fits })

nought : FitsInt (pos 0)
nought = omega arith

valid_literal : (f : Format) (op size : ℕ) (i : Insn) (x : Sized) (b : Bool) → i.op ≡ op → LiteralFits f op i.lit → where_valid b (sized size i) ≡ Some x → IsLiteral f op x
valid_literal f op size i x true same fits e = is_literal f op size i x same fits e
valid_literal f op size i x false same fits e = absurd (cc)

high_fits : (op v : ℕ) → nat_eq op 0x15 ≡ true → FitsInt (high_literal op v)
high_fits op v is = by (nat_eq op 0x15) is
  where
    by : (b : Bool) → b ≡ true → FitsInt (elim b [ true ↦ signed_at 32 (v * 2 ^ 16) | false ↦ signed_at 64 (v * 2 ^ 48) ])
    by true e = signed_32 (v * 2 ^ 16)
    by false e = absurd (cc)

read_literal : (f : Format) (op a : ℕ) (us : List ℕ) (x : Sized) → read_in f op a us ≡ Some x → IsLiteral f op x
read_literal F10x op zero us x e = is_literal F10x op _ _ x refl nought e
read_literal F10x op (suc a) us x e = absurd (cc)
read_literal F12x op a us x e = is_literal F12x op _ _ x refl nought e
read_literal F11n op a us x e = is_literal F11n op _ _ x refl (signed_4 (a / 16)) e
read_literal F11x op a us x e = is_literal F11x op _ _ x refl nought e
read_literal F10t op a us x e = is_literal F10t op _ _ x refl nought e
read_literal F20t op zero (v ∷ us) x e = is_literal F20t op _ _ x refl nought e
read_literal F20t op (suc a) (v ∷ us) x e = absurd (cc)
read_literal F22x op a (v ∷ us) x e = is_literal F22x op _ _ x refl nought e
read_literal F21t op a (v ∷ us) x e = is_literal F21t op _ _ x refl nought e
read_literal F21s op a (v ∷ us) x e = is_literal F21s op _ _ x refl (signed_16 v) e
read_literal F21h op a (v ∷ us) x e = is_literal F21h op _ _ x refl (high_fits op v) e
read_literal F21c op a (v ∷ us) x e = is_literal F21c op _ _ x refl nought e
read_literal F23x op a (v ∷ us) x e = is_literal F23x op _ _ x refl nought e
read_literal F22b op a (v ∷ us) x e = is_literal F22b op _ _ x refl (signed_8 (v / 256)) e
read_literal F22t op a (v ∷ us) x e = is_literal F22t op _ _ x refl nought e
read_literal F22s op a (v ∷ us) x e = is_literal F22s op _ _ x refl (signed_16 v) e
read_literal F22c op a (v ∷ us) x e = is_literal F22c op _ _ x refl nought e
read_literal F30t op zero (v ∷ w ∷ us) x e = is_literal F30t op _ _ x refl nought e
read_literal F30t op (suc a) (v ∷ w ∷ us) x e = absurd (cc)
read_literal F32x op zero (v ∷ w ∷ us) x e = is_literal F32x op _ _ x refl nought e
read_literal F32x op (suc a) (v ∷ w ∷ us) x e = absurd (cc)
read_literal F31i op a (v ∷ w ∷ us) x e = is_literal F31i op _ _ x refl (signed_32 (v + w * 2 ^ 16)) e
read_literal F31t op a (v ∷ w ∷ us) x e = is_literal F31t op _ _ x refl nought e
read_literal F31c op a (v ∷ w ∷ us) x e = is_literal F31c op _ _ x refl nought e
read_literal F35c op a (v ∷ w ∷ us) x e = valid_literal F35c op _ _ x _ refl nought e
read_literal F3rc op a (v ∷ w ∷ us) x e = valid_literal F3rc op _ _ x _ refl nought e
read_literal F51l op a (v ∷ w ∷ y ∷ z ∷ us) x e = is_literal F51l op _ _ x refl tt e
read_literal f op a us x e = absurd (cc)

-- ---- of const and the operations with a literal it is an int

abbrev pub has_literal : Option Family → Bool
has_literal (Some Family.Const) = true
has_literal (Some (Family.IntLiteral o)) = true
has_literal f = false

abbrev is_int_format : Option Format → ℕ → Bool
is_int_format (Some F51l) op = false
is_int_format (Some F21h) op = nat_eq op 0x15
is_int_format f op = true

abbrev is_right : ℕ → Bool
is_right op = if has_literal (family_at op) then is_int_format (format_at op) op else true

abbrev below : ℕ → List ℕ
below zero = []
below (suc n) = n ∷ below n

all_right : list_all is_right (below 256) ≡ true
unfolding format_at
all_right = refl

at_below : (n k : ℕ) → k < n → list_all is_right (below n) ≡ true → is_right k ≡ true
at_below zero k l all = absurd (omega (arith, l))
at_below (suc n) k l all = here_or (cases_eq k n) (and_parts (is_right n) (list_all is_right (below n)) all).0 (λ m. at_below n k m (and_parts (is_right n) (list_all is_right (below n)) all).1)
  where
    here_or : (k ≡ n) ⊎ (k ≢ n) → is_right n ≡ true → (k < n → is_right k ≡ true) → is_right k ≡ true
    here_or (inl e) here rest = subst (λ (m : ℕ). is_right m ≡ true) (sym e) here
    here_or (inr other) here rest = rest (omega (arith, l, other))

literal_by : (f : Format) (op : ℕ) (n : ℤ) → is_int_format (Some f) op ≡ true → LiteralFits f op n → FitsInt n
literal_by F51l op n is fits = absurd (cc)
literal_by F21h op n is fits = fits is
literal_by f op n is fits = fits

-- an instruction with a literal that is read
pub literal_fits : (us : List ℕ) (x : Sized) → insn_here us ≡ Some x → has_literal (family_at x.insn.op) ≡ true → FitsInt x.insn.lit
literal_fits [] x e has = absurd (cc)
literal_fits (u ∷ us) x e has = by (format_at (u % 256)) refl e
  where
    small : u % 256 < 256
    small = mod-lt u (lit< tt)

    right : is_right (u % 256) ≡ true
    right = at_below 256 (u % 256) small all_right

    by : (o : Option Format) → format_at (u % 256) ≡ o → read_by o (u % 256) (u / 256) us ≡ Some x → FitsInt x.insn.lit
    by None is read = absurd (cc)
    by (Some f) is read =
        let l = read_literal f (u % 256) (u / 256) us x read in
        let family : has_literal (family_at (u % 256)) ≡ true = subst (λ (op : ℕ). has_literal (family_at op) ≡ true) l.opcode has in
        let format : is_int_format (format_at (u % 256)) (u % 256) ≡ true = ap (λ (b : Bool). if b then is_int_format (format_at (u % 256)) (u % 256) else true) (sym family) ∙ right in
        literal_by f (u % 256) x.insn.lit (ap (λ (o : Option Format). is_int_format o (u % 256)) (sym is) ∙ format) l.fits
