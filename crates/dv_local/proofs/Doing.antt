-- From the equation of an operation to what is done where it is spelled.
use Rattle.std.proofs.Common.{◌≡◌, ℕ, ◌+◌, List, Bool, true, false, Option, Some, None, Ok, ℤ, refl, sym, ap, ◌∙◌, subst}
use Rattle.dv_defs.specs.declared.code.Insn.{Insn}
use Rattle.dv_defs.specs.Decoding.{Sized}
use Rattle.dv_defs.specs.declared.code.Payload.{Payload}
use Rattle.dv_defs.specs.declared.code.Payload.TheVariants as payload
use Rattle.dv_defs.specs.Families.{Family, family_at}
use Rattle.dv_defs.specs.Numbers.{jump}
use Rattle.dv_defs.specs.Images.{Image}
use Rattle.dv_defs.specs.Parts.{Bin, Width, is_division, is_shift}
use Rattle.dv_defs.specs.Op.{Arg, Case, cases_packed, cases_sparse, packed_op, reg, sparse_op, Code, IntDivide, LongDivide, Op, Resolved, int_op, long_op, move_op, result_op, Nop, MoveInt, MoveLong, MoveObject, ResultInt, ResultLong, ResultObject, TakeCaught, Const, ConstLong, IntUnary, LongUnary, IntToLong, LongToInt, IntOp, LongOp, LongShift, CompareLong, Goto, IfBoth, IfZero, Switch, is_local, op_of, resolve, resolve_by}
use Rattle.dv_defs.specs.Tiling.{Tile, payload_at}
use Rattle.dv_machine.specs.Local.{case_of}
use Rattle.dv_words.specs.Fetching.{IsSpelled}
use Rattle.dv_words.specs.Local.{branched, int_at, word_local}
use Rattle.dv_words.specs.Stepping.{AreRising, KeysRise}
use Rattle.dv_words.specs.Stacks.{gone}
use Rattle.dv_words.specs.declared.state.Frame.{Frame}
use Rattle.dv_local.specs.declared.here.Here.{Here}
use Rattle.dv_local.specs.Spelled.{Did, IsOpHere}
use Rattle.dv_local.proofs.Formats.{IsInsn, sized_as}
use Rattle.dv_local.proofs.Payloads.{payloads_are_there}

same_op : (o p : Op) → (let r : Resolved = Ok o in r) ≡ Ok p → o ≡ p
same_op o p e = cc

branch_keeps : (s : Frame) (next to : ℕ) (b : Bool) → (branched s next to b).method ≡ s.method
branch_keeps s next to true = refl
branch_keeps s next to false = refl

-- a local instruction keeps the method
pub keeps_method : (op : Op) (s : Frame) (next : ℕ) → (word_local op s next).method ≡ s.method
keeps_method Nop s next = refl
keeps_method (MoveInt a b) s next = refl
keeps_method (MoveLong a b) s next = refl
keeps_method (MoveObject a b) s next = refl
keeps_method (ResultInt a) s next = refl
keeps_method (ResultLong a) s next = refl
keeps_method (ResultObject a) s next = refl
keeps_method (TakeCaught a) s next = refl
keeps_method (Const a n) s next = refl
keeps_method (ConstLong a n) s next = refl
keeps_method (IntUnary o a b) s next = refl
keeps_method (LongUnary o a b) s next = refl
keeps_method (IntToLong a b) s next = refl
keeps_method (LongToInt a b) s next = refl
keeps_method (IntOp o a b c) s next = refl
keeps_method (LongOp o a b c) s next = refl
keeps_method (LongShift o a b c) s next = refl
keeps_method (CompareLong a b c) s next = refl
keeps_method (Goto to) s next = refl
keeps_method (IfBoth t a b to) s next = branch_keeps s next to _
keeps_method (IfZero t a to) s next = branch_keeps s next to _
keeps_method (Switch a cases) s next = refl
keeps_method op s next = refl

-- what is spelled here resolves as this instruction of this family
pub resolves : (h : Here) (n : ℕ) (i : Insn) (fam : Family) (op : Op) (next : ℕ) → IsInsn h n i → family_at i.op ≡ Some fam → (x : IsOpHere h op next) → (resolve x.image x.code h.at i fam ≡ Ok op) × (next ≡ h.at + n)
resolves h n i fam op next is f x =
    let same : sized_as x.size x.insn ≡ sized_as n i = is (sized_as x.size x.insn) x.read in
    let insns : x.insn ≡ i = ap (λ (z : Sized). z.insn) same in
    let sizes : x.size ≡ n = ap (λ (z : Sized). z.size) same in
    let here : op_of x.image x.code h.at i ≡ Ok op = ap (op_of x.image x.code h.at) (sym insns) ∙ x.resolved in
    (ap (resolve_by x.image x.code h.at i) (sym f) ∙ here, x.after ∙ ap (λ (m : ℕ). h.at + m) sizes)

-- an instruction that resolves to one operation in each image
pub did_one : (h : Here) (n : ℕ) (i : Insn) (fam : Family) (o : Op) (s t : Frame) → IsInsn h n i → family_at i.op ≡ Some fam → ((image : Image) (code : Code) → resolve image code h.at i fam ≡ Ok o) → is_local o ≡ true → t ≡ word_local o s (h.at + n) → Did h s t
did_one h n i fam o s t is f one local e = record {
  method = ap (λ (g : Frame). g.method) e ∙ keeps_method o s (h.at + n);
  local = λ op next x. subst (λ (p : Op). is_local p ≡ true) (same op next x) local;
  goes = λ op next x rise. e ∙ ap (λ (p : Op). word_local p s (h.at + n)) (same op next x) ∙ ap (word_local op s) (sym ((resolves h n i fam op next is f x).1));
}
  where
    same : (op : Op) (next : ℕ) → IsOpHere h op next → o ≡ op
    same op next x = same_op o op (sym (one x.image x.code) ∙ (resolves h n i fam op next is f x).0)

-- ---- operations of families

pub move_local : (w : Width) (a b : ℕ) → is_local (move_op w a b) ≡ true
move_local Width.Narrow a b = refl
move_local Width.Wide a b = refl
move_local Width.Reference a b = refl

pub result_local : (w : Width) (a : ℕ) → is_local (result_op w a) ≡ true
result_local Width.Narrow a = refl
result_local Width.Wide a = refl
result_local Width.Reference a = refl

pub int_op_is : (o : Bin) (a b : ℕ) (c : Arg) → is_division o ≡ false → (let r : Resolved = Ok (int_op o a b c) in r) ≡ Ok (IntOp o a b c)
int_op_is o a b c e = ap (λ (d : Bool). (let r : Resolved = Ok (elim d [ true ↦ IntDivide o a b c | false ↦ IntOp o a b c ]) in r)) e

abbrev by_shift : Bin → ℕ → ℕ → ℕ → Bool → Op
by_shift o a b c d = elim d [ true ↦ LongShift o a b c | false ↦ LongOp o a b c ]

abbrev by_division : Bin → ℕ → ℕ → ℕ → Bool → Bool → Resolved
by_division o a b c d e = Ok (elim d [ true ↦ LongDivide o a b c | false ↦ by_shift o a b c e ])

pub long_op_is : (o : Bin) (a b c : ℕ) → is_division o ≡ false → is_shift o ≡ false → (let r : Resolved = Ok (long_op o a b c) in r) ≡ Ok (LongOp o a b c)
long_op_is o a b c d e = ap (λ (x : Bool). by_division o a b c x (is_shift o)) d ∙ ap (by_division o a b c false) e

undivided : (o : Bin) → is_shift o ≡ true → is_division o ≡ false
undivided Bin.Div e = absurd (cc)
undivided Bin.Rem e = absurd (cc)
undivided Bin.Add e = refl
undivided Bin.Sub e = refl
undivided Bin.Rsub e = refl
undivided Bin.Mul e = refl
undivided Bin.And e = refl
undivided Bin.Or e = refl
undivided Bin.Xor e = refl
undivided Bin.Shl e = refl
undivided Bin.Shr e = refl
undivided Bin.Ushr e = refl

pub shift_op_is : (o : Bin) (a b c : ℕ) → is_shift o ≡ true → (let r : Resolved = Ok (long_op o a b c) in r) ≡ Ok (LongShift o a b c)
shift_op_is o a b c e = ap (λ (x : Bool). by_division o a b c x (is_shift o)) (undivided o e) ∙ ap (by_division o a b c false) e

-- ---- equal operands

pub same_two : {A B : Type 0} (f : A → B → Frame) (a a' : A) (b b' : B) → a ≡ a' → b ≡ b' → f a b ≡ f a' b'
same_two f a a' b b' p q = ap (λ x. f x b) p ∙ ap (f a') q

pub same_three : {A B C : Type 0} (f : A → B → C → Frame) (a a' : A) (b b' : B) (c c' : C) → a ≡ a' → b ≡ b' → c ≡ c' → f a b c ≡ f a' b' c'
same_three f a a' b b' c c' p q r = ap (λ x. f x b c) p ∙ same_two (f a') b b' c c' q r

pub same_four : {A B C D : Type 0} (f : A → B → C → D → Frame) (a a' : A) (b b' : B) (c c' : C) (d d' : D) → a ≡ a' → b ≡ b' → c ≡ c' → d ≡ d' → f a b c d ≡ f a' b' c' d'
same_four f a a' b b' c c' d d' p q r s = ap (λ x. f x b c d) p ∙ same_three (f a') b b' c c' d d' q r s

-- ---- switches

-- a switch goes on where its cases say
module _ (h : Here) (s t : Frame) (a to n : ℕ) (goes : t ≡ gone s to) where
  abbrev Leads : List Case → Type 0
  Leads cases = to ≡ case_of cases (int_at s a) n

  -- a local instruction that is done where its keys rise
  abbrev Goes : Op → ℕ → Type 0
  Goes op next = (is_local op ≡ true) × (KeysRise op → t ≡ word_local op s next)

  at_switch : (cases : List Case) (op : Op) → (AreRising cases → Leads cases) → (let o : Op = Switch a cases in o) ≡ op → Goes op n
  at_switch cases op l e = (
    subst (λ (o : Op). is_local o ≡ true) e refl,
    λ rise. goes ∙ ap (gone s) (l (subst (λ (o : Op). KeysRise o) (sym e) rise)) ∙ ap (λ (o : Op). word_local o s n) e,
  )

  abbrev PackedLead : List ℕ → ℕ → Type 0
  PackedLead units place = (first : ℤ) (targets : List ℤ) → IsSpelled units place (payload.Packed first targets) → Leads (cases_packed h.at first targets)

  abbrev SparseLead : List ℕ → ℕ → Type 0
  SparseLead units place = (keys targets : List ℤ) → IsSpelled units place (payload.Sparse keys targets) → AreRising (cases_sparse h.at keys targets) → Leads (cases_sparse h.at keys targets)

  at_packed : (place : ℕ) (o : Option Payload) (op : Op) → ((p : Payload) → o ≡ Some p → IsSpelled h.units.now place p) → PackedLead h.units.now place → packed_op h.at a o ≡ Ok op → Goes op n
  at_packed place None op there l e = absurd (cc)
  at_packed place (Some (payload.Sparse ks ts)) op there l e = absurd (cc)
  at_packed place (Some (payload.Data w bs)) op there l e = absurd (cc)
  at_packed place (Some (payload.Packed k ts)) op there l e = at_switch (cases_packed h.at k ts) op (λ rise. l k ts (there (payload.Packed k ts) refl)) (same_op _ op e)

  at_sparse : (place : ℕ) (o : Option Payload) (op : Op) → ((p : Payload) → o ≡ Some p → IsSpelled h.units.now place p) → SparseLead h.units.now place → sparse_op h.at a o ≡ Ok op → Goes op n
  at_sparse place None op there l e = absurd (cc)
  at_sparse place (Some (payload.Packed k ts)) op there l e = absurd (cc)
  at_sparse place (Some (payload.Data w bs)) op there l e = absurd (cc)
  at_sparse place (Some (payload.Sparse ks ts)) op there l e = at_switch (cases_sparse h.at ks ts) op (l ks ts (there (payload.Sparse ks ts) refl)) (same_op _ op e)

  -- what the items have there is spelled there
  spelled : (op : Op) (next : ℕ) (x : IsOpHere h op next) (place : ℕ) (p : Payload) → payload_at x.code.tiles place ≡ Some p → IsSpelled h.units.now place p
  spelled op next x place p e = payloads_are_there h.units.now place p (ap (λ (ts : List Tile). payload_at ts place) (sym x.tiles) ∙ e)

  did_all : ((op : Op) (next : ℕ) → IsOpHere h op next → Goes op next) → Did h s t
  did_all all = record { method = ap (λ (g : Frame). g.method) goes; local = λ op next x. (all op next x).0; goes = λ op next x. (all op next x).1 }

  at_next : (op : Op) (next : ℕ) → next ≡ n → Goes op n → Goes op next
  at_next op next e r = (r.0, λ rise. r.1 rise ∙ ap (word_local op s) (sym e))

  pub did_packed : (size : ℕ) (i : Insn) → n ≡ h.at + size → reg i 0 ≡ a → IsInsn h size i → family_at i.op ≡ Some Family.PackedSwitch → PackedLead h.units.now (jump h.at i.off) → Did h s t
  did_packed size i sized named is f l = did_all (λ op next x.
      let r = resolves h size i Family.PackedSwitch op next is f x in
      at_next op next (r.1 ∙ sym sized)
      (at_packed (jump h.at i.off) (payload_at x.code.tiles (jump h.at i.off)) op (spelled op next x (jump h.at i.off)) l
      (ap (λ (b : ℕ). packed_op h.at b (payload_at x.code.tiles (jump h.at i.off))) (sym named) ∙ r.0)))

  pub did_sparse : (size : ℕ) (i : Insn) → n ≡ h.at + size → reg i 0 ≡ a → IsInsn h size i → family_at i.op ≡ Some Family.SparseSwitch → SparseLead h.units.now (jump h.at i.off) → Did h s t
  did_sparse size i sized named is f l = did_all (λ op next x.
      let r = resolves h size i Family.SparseSwitch op next is f x in
      at_next op next (r.1 ∙ sym sized)
      (at_sparse (jump h.at i.off) (payload_at x.code.tiles (jump h.at i.off)) op (spelled op next x (jump h.at i.off)) l
      (ap (λ (b : ℕ). sparse_op h.at b (payload_at x.code.tiles (jump h.at i.off))) (sym named) ∙ r.0)))
