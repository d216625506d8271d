-- Which opcodes are those of local instructions.
use Rattle.std.proofs.Common.{◌≡◌, ℕ, zero, suc, ◌<◌, ◌%◌, ◌/◌, ◌∷◌, [], List, Bool, true, false, ◌&&◌, ◌||◌, Option, Some, None, option_map, refl, sym, ap, ◌∙◌, subst, arith, mod-lt, lit<}
use Rattle.std.specs.Prelude.{nat_eq, nat_le, nat_lt, take, drop}
use Rattle.std.specs.List.{list_all}
use Rattle.dv_defs.specs.Spelling.{few, neighbours, with_index}
use Rattle.std.specs.Bool.{beq}
use Rattle.std.proofs.lemmas.Bool.{agree_below_at}
use Rattle.dv_defs.specs.Decoding.{Sized, five, insn_here, is_zero, read_by, read_in, sized, where_valid, where_zero}
use Rattle.dv_defs.specs.Formats.{Format, F10x, F12x, F11n, F11x, F10t, F20t, F22x, F21t, F21s, F21h, F21c, F23x, F22b, F22t, F22s, F22c, F30t, F32x, F31i, F31t, F31c, F35c, F3rc, F51l, format_at}
use Rattle.dv_defs.specs.Op as machine
use Rattle.dv_defs.specs.Op.{Op}
use Rattle.dv_optable.specs.Table as table
use Rattle.dv_optable.specs.Table.{entry_at}
use Rattle.dv_optable.specs.Families.{is_local}
use Rattle.dv_optable.specs.declared.family.Family.{Family}
use Rattle.dv_units.proofs.Operations.{locals_agree}
use Rattle.dv_words.specs.declared.state.Frame.{Frame}
use Rattle.dv_local.specs.declared.here.Here.{Here}
use Rattle.dv_local.specs.Local.{is_local_opcode}
use Rattle.dv_local.specs.Spelled.{Did, IsOpHere, SteppedHere, rest_of}

-- ---- an instruction has the opcode of its first unit

abbrev HasOp : ℕ → Option Sized → Type 0
HasOp op None = Unit {0}
HasOp op (Some z) = z.insn.op ≡ op

zero_has : (op n : ℕ) (x : Option Sized) → HasOp op x → HasOp op (where_zero n x)
zero_has op zero x h = h
zero_has op (suc n) x h = tt

valid_has : (op : ℕ) (b : Bool) (x : Option Sized) → HasOp op x → HasOp op (where_valid b x)
valid_has op true x h = h
valid_has op false x h = tt

has_opcode : (f : Format) (op a : ℕ) (us : List ℕ) → HasOp op (read_in f op a us)
has_opcode F10x op a us = zero_has op a _ refl
has_opcode F12x op a us = refl
has_opcode F11n op a us = refl
has_opcode F11x op a us = refl
has_opcode F10t op a us = refl
has_opcode F20t op a [] = tt
has_opcode F20t op a (v ∷ us) = zero_has op a _ refl
has_opcode F22x op a [] = tt
has_opcode F22x op a (v ∷ us) = refl
has_opcode F21t op a [] = tt
has_opcode F21t op a (v ∷ us) = refl
has_opcode F21s op a [] = tt
has_opcode F21s op a (v ∷ us) = refl
has_opcode F21h op a [] = tt
has_opcode F21h op a (v ∷ us) = refl
has_opcode F21c op a [] = tt
has_opcode F21c op a (v ∷ us) = refl
has_opcode F23x op a [] = tt
has_opcode F23x op a (v ∷ us) = refl
has_opcode F22b op a [] = tt
has_opcode F22b op a (v ∷ us) = refl
has_opcode F22t op a [] = tt
has_opcode F22t op a (v ∷ us) = refl
has_opcode F22s op a [] = tt
has_opcode F22s op a (v ∷ us) = refl
has_opcode F22c op a [] = tt
has_opcode F22c op a (v ∷ us) = refl
has_opcode F30t op a [] = tt
has_opcode F30t op a (v ∷ []) = tt
has_opcode F30t op a (v ∷ w ∷ us) = zero_has op a _ refl
has_opcode F32x op a [] = tt
has_opcode F32x op a (v ∷ []) = tt
has_opcode F32x op a (v ∷ w ∷ us) = zero_has op a _ refl
has_opcode F31i op a [] = tt
has_opcode F31i op a (v ∷ []) = tt
has_opcode F31i op a (v ∷ w ∷ us) = refl
has_opcode F31t op a [] = tt
has_opcode F31t op a (v ∷ []) = tt
has_opcode F31t op a (v ∷ w ∷ us) = refl
has_opcode F31c op a [] = tt
has_opcode F31c op a (v ∷ []) = tt
has_opcode F31c op a (v ∷ w ∷ us) = refl
has_opcode F35c op a [] = tt
has_opcode F35c op a (v ∷ []) = tt
has_opcode F35c op a (v ∷ w ∷ us) = valid_has op (nat_le (a / 16) 5 && list_all is_zero (drop (a / 16) (five (a % 16) w))) (sized 3 (with_index op (few (take (a / 16) (five (a % 16) w))) v)) refl
has_opcode F3rc op a [] = tt
has_opcode F3rc op a (v ∷ []) = tt
has_opcode F3rc op a (v ∷ w ∷ us) = valid_has op (nat_lt 0 a || nat_eq w 0) (sized 3 (with_index op (neighbours w a) v)) refl
has_opcode F51l op a [] = tt
has_opcode F51l op a (v ∷ []) = tt
has_opcode F51l op a (v ∷ w ∷ []) = tt
has_opcode F51l op a (v ∷ w ∷ x ∷ []) = tt
has_opcode F51l op a (v ∷ w ∷ x ∷ y ∷ us) = refl

has_opcode_by : (o : Option Format) (op a : ℕ) (us : List ℕ) → HasOp op (read_by o op a us)
has_opcode_by None op a us = tt
has_opcode_by (Some f) op a us = has_opcode f op a us

pub opcode_read : (u : ℕ) (us : List ℕ) (z : Sized) → insn_here (u ∷ us) ≡ Some z → z.insn.op ≡ u % 256
opcode_read u us z e = let h : HasOp (u % 256) (Some z) = subst (HasOp (u % 256)) e (has_opcode_by (format_at (u % 256)) (u % 256) (u / 256) us) in h

-- ---- local opcodes

abbrev says : Option Family → Bool → Bool
says None b = true
says (Some f) b = beq (is_local f) b

all_say : (k : ℕ) → k < 256 → says (table.family_at k) (is_local_opcode k) ≡ true
unfolding table.family_at entry_at table.table
all_say k h = agree_below_at (λ n. says (table.family_at n) (is_local_opcode n)) (λ n. true) 256 k refl h

same_bool : (a b : Bool) → beq a b ≡ true → b ≡ a
same_bool true true e = refl
same_bool false false e = refl
same_bool true false e = absurd (cc)
same_bool false true e = absurd (cc)

from_row : (o : Option Family) (b c : Bool) → says o b ≡ true → option_map is_local o ≡ Some c → b ≡ c
from_row None b c s e = absurd (cc)
from_row (Some f) b c s e = let d : is_local f ≡ c = cc e in same_bool (is_local f) b s ∙ d

-- an operation is local where its opcode is
pub opcode_local : (k : ℕ) (c : Bool) → k < 256 → option_map is_local (table.family_at k) ≡ Some c → is_local_opcode k ≡ c
opcode_local k c h e = from_row (table.family_at k) (is_local_opcode k) c (all_say k h) e

pub here_local : (h : Here) (op : Op) (next : ℕ) → IsOpHere h op next → machine.is_local op ≡ is_local_opcode (h.first % 256)
here_local h op next x =
    let k : x.insn.op ≡ h.first % 256 = opcode_read h.first (rest_of h) (record { insn = x.insn; size = x.size }) x.read in
    let few : h.first % 256 < 256 = mod-lt h.first (lit< tt) in
    let small : x.insn.op < 256 = omega (arith, k, few) in
    sym (ap is_local_opcode (sym k) ∙ opcode_local x.insn.op (machine.is_local op) small (locals_agree x.image x.code h.at x.insn op small x.resolved))

-- ---- stepped or not

pub done : (h : Here) (s t : Frame) → Did h s t → SteppedHere h true s t
done h s t d = record { method = d.method; local = d.local; goes = λ op next x e rise. d.goes op next x rise; stays = λ e. absurd (cc e) }

pub not_done : (h : Here) (s : Frame) → is_local_opcode (h.first % 256) ≡ false → SteppedHere h false s s
not_done h s e = record { method = refl; local = λ op next x. here_local h op next x ∙ e; goes = λ op next x d rise. absurd (cc d); stays = λ d. refl }

-- ---- the opcodes one by one

abbrev pub local_opcodes : List ℕ
local_opcodes =
    0x00 ∷ 0x01 ∷ 0x02 ∷ 0x03 ∷ 0x04 ∷ 0x05 ∷ 0x06 ∷ 0x07 ∷ 0x08 ∷ 0x09 ∷ 0x0a ∷ 0x0b ∷ 0x0c ∷ 0x0d ∷ 0x12 ∷ 0x13 ∷ 0x14 ∷ 0x15 ∷
    0x16 ∷ 0x17 ∷ 0x18 ∷ 0x19 ∷ 0x28 ∷ 0x29 ∷ 0x2a ∷ 0x2b ∷ 0x2c ∷ 0x31 ∷ 0x32 ∷ 0x33 ∷ 0x34 ∷ 0x35 ∷ 0x36 ∷ 0x37 ∷ 0x38 ∷ 0x39 ∷
    0x3a ∷ 0x3b ∷ 0x3c ∷ 0x3d ∷ 0x7b ∷ 0x7c ∷ 0x7d ∷ 0x7e ∷ 0x81 ∷ 0x84 ∷ 0x8d ∷ 0x8e ∷ 0x8f ∷ 0x90 ∷ 0x91 ∷ 0x92 ∷ 0x95 ∷ 0x96 ∷
    0x97 ∷ 0x98 ∷ 0x99 ∷ 0x9a ∷ 0x9b ∷ 0x9c ∷ 0x9d ∷ 0xa0 ∷ 0xa1 ∷ 0xa2 ∷ 0xa3 ∷ 0xa4 ∷ 0xa5 ∷ 0xb0 ∷ 0xb1 ∷ 0xb2 ∷ 0xb5 ∷ 0xb6 ∷
    0xb7 ∷ 0xb8 ∷ 0xb9 ∷ 0xba ∷ 0xbb ∷ 0xbc ∷ 0xbd ∷ 0xc0 ∷ 0xc1 ∷ 0xc2 ∷ 0xc3 ∷ 0xc4 ∷ 0xc5 ∷ 0xd0 ∷ 0xd1 ∷ 0xd2 ∷ 0xd5 ∷ 0xd6 ∷
    0xd7 ∷ 0xd8 ∷ 0xd9 ∷ 0xda ∷ 0xdd ∷ 0xde ∷ 0xdf ∷ 0xe0 ∷ 0xe1 ∷ 0xe2 ∷ []

abbrev has : ℕ → List ℕ → Bool
has n [] = false
has n (k ∷ ks) = nat_eq n k || has n ks

abbrev pub IsNone : ℕ → List ℕ → Type 0
IsNone n [] = Unit {0}
IsNone n (k ∷ ks) = (n ≡ k → ⊥) × IsNone n ks

no_other : (n k : ℕ) → (n ≡ k → ⊥) → nat_eq n k ≡ false
no_other n k e = grind arith

has_not : (n : ℕ) (ks : List ℕ) → IsNone n ks → has n ks ≡ false
has_not n [] h = refl
has_not n (k ∷ ks) h = ap (λ (b : Bool). b || has n ks) (no_other n k h.0) ∙ has_not n ks h.1

are_all : (n : ℕ) → n < 256 → is_local_opcode n ≡ has n local_opcodes
are_all n h = agree_below_at is_local_opcode (λ k. has k local_opcodes) 256 n refl h

pub none_local : (h : Here) (s : Frame) → IsNone (h.first % 256) local_opcodes → SteppedHere h false s s
none_local h s e = not_done h s (are_all (h.first % 256) (mod-lt h.first (lit< tt)) ∙ has_not (h.first % 256) local_opcodes e)
