-- Marks of addresses: what leads to each.
use Rattle.std.specs.Prelude.{◌≡◌, ◌<◌, ℕ, true, List, [], ◌∷◌, map, Option, Some, None, slice_get, slice_index_or, slice_set}
use Rattle.dv_defs.specs.Images.{Image}
use Rattle.dv_defs.specs.Op.{Code}
use Rattle.dv_defs.specs.Tiling.{begins_insn}
use Rattle.dv_typing.specs.Statics.{At, fetch}
use Rattle.dv_typing.specs.Flow.{targets}
use Rattle.law_blocks.specs.Blocks.{GoesStraight}
use Rattle.dv_plan.specs.declared.marks.Mark.{Mark}
use Rattle.dv_plan.specs.declared.marks.Mark.TheVariants as mark
use Rattle.dv_plan.specs.declared.hops.Hop.{Hop}
use Rattle.dv_plan.specs.declared.ways.Ways.{Ways}

-- what is no address of the body is a head
abbrev pub mark_at : List Mark → ℕ → Mark
mark_at marks to = slice_index_or marks to mark.Head

-- the address before
abbrev pub address_in : Mark → Option ℕ
address_in (mark.After p) = Some p
address_in m = None

abbrev pub before_by : List Mark → ℕ → Option ℕ
before_by marks to = address_in (mark_at marks to)

-- the marks of what so many units lead to
pub record AreMarks (image : Image) (code : Code) (n : ℕ) (marks : List Mark) : Type 0 where
  pub unseen :
      (to : ℕ) → mark_at marks to ≡ mark.Unseen → begins_insn code.tiles to ≡ true →
      (at : ℕ) (x : At) → at < n → fetch image code.method.id at ≡ Some x → (k : ℕ) → slice_get (targets x) k ≡ Some to → ⊥
  pub straight : (at to : ℕ) → mark_at marks to ≡ mark.After at → GoesStraight image code at to
  pub alone :
      (p to : ℕ) → mark_at marks to ≡ mark.After p →
      (at : ℕ) (x : At) → at < n → fetch image code.method.id at ≡ Some x → (k : ℕ) → slice_get (targets x) k ≡ Some to → p ≡ at

-- what the ways of a try entry lead to is a head
abbrev pub LeadToHeads : List Mark → List (List Hop) → Type 0
LeadToHeads marks hops = (entry k : ℕ) (h : Hop) → slice_get (slice_index_or hops entry []) k ≡ Some h → mark_at marks h.to ≡ mark.Head

-- ---- what changes marks

-- straight code comes from one address, or else it is a head
abbrev pub met : Mark → ℕ → Mark
met mark.Unseen at = mark.After at
met m at = mark.Head

abbrev pub headed : List Mark → List ℕ → List Mark
headed marks [] = marks
headed marks (to ∷ tos) = headed (slice_set marks to mark.Head) tos

abbrev pub headed_lists : List Mark → List (List Hop) → List Mark
headed_lists marks [] = marks
headed_lists marks (hs ∷ hops) = headed_lists (headed marks (map (λ (h : Hop). h.to) hs)) hops

abbrev pub marked_by : List Mark → ℕ → List ℕ → Option ℕ → List Mark
marked_by marks at tos (Some to) = slice_set marks to (met (mark_at marks to) at)
marked_by marks at tos None = headed marks tos

abbrev pub marked : List Mark → ℕ → Option Ways → List Mark
marked marks at None = marks
marked marks at (Some w) = marked_by marks at w.targets w.next
