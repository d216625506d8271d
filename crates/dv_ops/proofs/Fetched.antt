-- What is fetched where an instruction begins in a body that breaks no static rule.
use Rattle.std.proofs.Common.{◌≡◌, ℕ, ◌-◌, ◌<◌, true, Option, Some, Ok, Err, refl, ap, sym, ◌∙◌, subst, arith}
use Rattle.dv_defs.specs.declared.code.Insn.{Insn}
use Rattle.dv_defs.specs.declared.code.Payload.{Payload}
use Rattle.dv_defs.specs.declared.code.Payload.TheVariants as payload
use Rattle.dv_defs.specs.declared.faults.Rule.{Rule}
use Rattle.dv_defs.specs.Images.{Image}
use Rattle.dv_defs.specs.Families.{Family, family_at}
use Rattle.dv_defs.specs.Numbers.{jump}
use Rattle.dv_defs.specs.Tiling.{Tile, IsInsn, begins_insn, payload_at, tile_at}
use Rattle.dv_defs.specs.Op as def
use Rattle.dv_defs.specs.Op.{Code, Resolved, op_of, resolve_by, packed_op, sparse_op, fill_op}
use Rattle.dv_typing.specs.Statics.{At, fetch}
use Rattle.law_flow.specs.Clean.{IsClean, IsFetched}
use Rattle.dv_ops.specs.declared.op.Op.{Op}
use Rattle.dv_ops.specs.Meaning.{has_payload, has_payload_of, is_packed, is_sparse, is_data, meant, meant_or_rule}

-- ---- an instruction that has an operation has its payload

packed : (at a : ℕ) (o : def.Op) (p : Option Payload) → packed_op at a p ≡ Ok o → is_packed p ≡ true
packed at a o (Some (payload.Packed k ts)) e = refl
packed at a o p e = absurd (cc (e))

sparse : (at a : ℕ) (o : def.Op) (p : Option Payload) → sparse_op at a p ≡ Ok o → is_sparse p ≡ true
sparse at a o (Some (payload.Sparse ks ts)) e = refl
sparse at a o p e = absurd (cc (e))

filled : (a : ℕ) (o : def.Op) (p : Option Payload) → fill_op a p ≡ Ok o → is_data p ≡ true
filled a o (Some (payload.Data width bytes)) e = refl
filled a o p e = absurd (cc (e))

payload_by : (f : Option Family) (image : Image) (code : Code) (at : ℕ) (i : Insn) (o : def.Op) → resolve_by image code at i f ≡ Ok o → has_payload_of f (payload_at code.tiles (jump at i.off)) ≡ true
payload_by (Some Family.PackedSwitch) image code at i o e = packed at (def.reg i 0) o (payload_at code.tiles (jump at i.off)) e
payload_by (Some Family.SparseSwitch) image code at i o e = sparse at (def.reg i 0) o (payload_at code.tiles (jump at i.off)) e
payload_by (Some Family.FillArrayData) image code at i o e = filled (def.reg i 0) o (payload_at code.tiles (jump at i.off)) e
payload_by f image code at i o e = refl

pub payload_there : (image : Image) (code : Code) (at : ℕ) (i : Insn) (o : def.Op) → op_of image code at i ≡ Ok o → has_payload code at i ≡ true
payload_there image code at i o e = payload_by (family_at i.op) image code at i o e

-- ---- the operation that is fetched

-- what stands at an address, with its operation
pub record Gives (image : Image) (code : Code) (at : ℕ) (i : Insn) (next : ℕ) : Type 0 where
  pub op : def.Op
  pub is : op_of image code at i ≡ Ok op
  pub fetched : fetch image code.method.id at ≡ Some (record { op = op; next = next })

parts : (at n m : ℕ) (i : Insn) (t : Tile) → (let o : Option Tile = Some t in o) ≡ Some (record { at = n; size = m; item = IsInsn i }) → (t.size ≡ m) × (t.item ≡ IsInsn i)
parts at n m i t e = let same : (let x : Tile = record { at = n; size = m; item = IsInsn i } in x) ≡ t = cc (e) in (ap (λ x. x.size) (sym same), ap (λ x. x.item) (sym same))

insns : (i j : Insn) → IsInsn i ≡ IsInsn j → i ≡ j
insns i j e = cc (e)

by_fetched : (image : Image) (code : Code) (at next : ℕ) (i : Insn) (x : At) → at < next → tile_at code.tiles at ≡ Some (record { at = at; size = next - at; item = IsInsn i }) → IsFetched image code at x → Gives image code at i next
by_fetched image code at next i x h t f =
    let p = parts at at (next - at) i f.tile (sym f.there ∙ t) in
    let same : f.insn ≡ i = insns f.insn i (sym f.is_insn ∙ p.1) in
    let after : x.next ≡ next = omega (arith, f.next, p.0, h) in
    let P : ℕ → Type 0 = λ n. fetch image code.method.id at ≡ Some (record { op = x.op; next = n }) in
    record {
      op = x.op;
      is = ap (op_of image code at) (sym same) ∙ f.op;
      fetched = subst P after f.fetched;
    }

pub gives : (image : Image) (code : Code) (at next : ℕ) (i : Insn) → IsClean image code → begins_insn code.tiles at ≡ true → at < next → tile_at code.tiles at ≡ Some (record { at = at; size = next - at; item = IsInsn i }) → Gives image code at i next
gives image code at next i clean begins h t = let (x, f) = clean.each at begins in by_fetched image code at next i x h t f

-- the instruction resolves, to what is fetched
pub fetches : (image : Image) (code : Code) (at next : ℕ) (i : Insn) (o : Op) → Gives image code at i next → (has_payload code at i ≡ true → meant_or_rule code at (Ok o) ≡ op_of image code at i) → fetch image code.method.id at ≡ Some (record { op = meant code at o; next = next })
fetches image code at next i o g e =
    let whole : (let r : Resolved = Ok (meant code at o) in r) ≡ Ok g.op = e (payload_there image code at i g.op g.is) ∙ g.is in
    let same : meant code at o ≡ g.op = cc (whole) in
    let P : def.Op → Type 0 = λ p. fetch image code.method.id at ≡ Some (record { op = p; next = next }) in
    subst P (sym same) g.fetched

pub never : (image : Image) (code : Code) (at next : ℕ) (i : Insn) (broken : Rule) → Gives image code at i next → (has_payload code at i ≡ true → meant_or_rule code at (Err broken) ≡ op_of image code at i) → ⊥
never image code at next i broken g e =
    let whole : (let r : Resolved = Err broken in r) ≡ Ok g.op = e (payload_there image code at i g.op g.is) ∙ g.is in
    cc (whole)
