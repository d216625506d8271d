-- Where the payload that an instruction needs doesn't stand at its target, there is no operation.
use Rattle.std.proofs.Common.{◌≡◌, ℕ, false, Option, Some, refl}
use Rattle.std.specs.Prelude.{Err}
use Rattle.dv_defs.specs.declared.code.Insn.{Insn}
use Rattle.dv_defs.specs.declared.code.Payload.{Payload}
use Rattle.dv_defs.specs.declared.code.Payload.TheVariants as payload
use Rattle.dv_defs.specs.declared.faults.Rule.TheVariants as rule
use Rattle.dv_defs.specs.Images.{Image}
use Rattle.dv_defs.specs.Families.{Family, family_at}
use Rattle.dv_defs.specs.Numbers.{jump}
use Rattle.dv_defs.specs.Op.{Code, packed_op, sparse_op, fill_op, resolve_by, op_of}
use Rattle.dv_defs.specs.Tiling.{payload_at}
use Rattle.dv_ops.specs.Meaning.{has_payload, has_payload_of, is_packed, is_sparse, is_data}

no_packed : (at a : ℕ) (p : Option Payload) → is_packed p ≡ false → packed_op at a p ≡ Err (rule.S 6)
no_packed at a (Some (payload.Packed k ts)) h = absurd (cc)
no_packed at a p h = refl

no_sparse : (at a : ℕ) (p : Option Payload) → is_sparse p ≡ false → sparse_op at a p ≡ Err (rule.S 6)
no_sparse at a (Some (payload.Sparse ks ts)) h = absurd (cc)
no_sparse at a p h = refl

no_data : (a : ℕ) (p : Option Payload) → is_data p ≡ false → fill_op a p ≡ Err (rule.S 6)
no_data a (Some (payload.Data width bytes)) h = absurd (cc)
no_data a p h = refl

by_family : (image : Image) (code : Code) (at : ℕ) (i : Insn) (f : Option Family) → has_payload_of f (payload_at code.tiles (jump at i.off)) ≡ false → resolve_by image code at i f ≡ Err (rule.S 6)
by_family image code at i (Some Family.PackedSwitch) h = no_packed at _ _ h
by_family image code at i (Some Family.SparseSwitch) h = no_sparse at _ _ h
by_family image code at i (Some Family.FillArrayData) h = no_data _ _ h
by_family image code at i f h = absurd (cc)

pub unresolved : (image : Image) (code : Code) (at : ℕ) (i : Insn) → has_payload code at i ≡ false → op_of image code at i ≡ Err (rule.S 6)
unresolved image code at i h = by_family image code at i (family_at i.op) h
