-- What a return changes in the caller's frame.
use Rattle.std.proofs.Common.{◌≡◌, ℕ, List, length, Bool, true, false, Option, Some, None, refl, subst}
use Rattle.std.specs.Prelude.{All, nat_eq, if◌then◌else◌}
use Rattle.std.proofs.lemmas.List.Elements.{All-map, All-weaker}
use Rattle.std.proofs.Math.ListN.{length-map}
use Rattle.dv_defs.specs.Images.{Image}
use Rattle.dv_machine.specs.Value.{Value}
use Rattle.dv_machine.specs.Value as v
use Rattle.dv_machine.specs.Pending.{Pending}
use Rattle.dv_machine.specs.Frame.{Frame}
use Rattle.dv_machine.specs.Level as level
use Rattle.dv_typing.specs.Statics.{At}
use Rattle.dv_machine.specs.Heap.{Heap}
use Rattle.dv_machine.specs.State.{reg_at}
use Rattle.dv_machine.specs.Calls.{initialised, initialised_in, object_of, receiver_of, returned, constructed_at}
use Rattle.dv_machine.specs.Conforming.{RefFine, ResultFine, RefsFine, IsThere}
use Rattle.std.proofs.lemmas.Bool.{eqb-true}

pub returned_method : (b : Bool) (g : Frame) (x : At) (p : Pending) → (returned b g x p).method ≡ g.method
returned_method false g x p = refl
returned_method true g x p = by_receiver (receiver_of x.op)
  where
    by_receiver : (o : Option ℕ) → (constructed_at g x.next p o).method ≡ g.method
    by_receiver None = refl
    by_receiver (Some k) = refl

pub returned_at : (b : Bool) (g : Frame) (x : At) (p : Pending) → (returned b g x p).at ≡ x.next
returned_at false g x p = refl
returned_at true g x p = by_receiver (receiver_of x.op)
  where
    by_receiver : (o : Option ℕ) → (constructed_at g x.next p o).at ≡ x.next
    by_receiver None = refl
    by_receiver (Some k) = refl

same_count : (x : Value) (o : Option ℕ) (xs : List Value) → length (initialised_in x o xs) ≡ length xs
same_count x None xs = refl
same_count x (Some o) xs = length-map xs (initialised o)

pub returned_count : (b : Bool) (g : Frame) (x : At) (p : Pending) → length (returned b g x p).regs ≡ length g.regs
returned_count false g x p = refl
returned_count true g x p = by_receiver (receiver_of x.op)
  where
    by_receiver : (o : Option ℕ) → length (constructed_at g x.next p o).regs ≡ length g.regs
    by_receiver None = refl
    by_receiver (Some k) = same_count (reg_at g.regs k) (object_of (reg_at g.regs k)) g.regs

module _ (image : Image) (heap : Heap) where
  -- the object of an initialised value is there
  initialised_fine : (o : ℕ) → IsThere image heap o → (x : Value) → RefFine image heap x → RefFine image heap (initialised o x)
  initialised_fine o h (v.Uninit a p) r = by_test (nat_eq o p) refl
    where
      by_test : (b : Bool) → nat_eq o p ≡ b → RefFine image heap (if b then v.Ref p else v.Uninit a p)
      by_test true e = subst (IsThere image heap) (eqb-true o p e) h
      by_test false e = tt
  initialised_fine o h (v.UninitThis p) r = by_test (nat_eq o p) refl
    where
      by_test : (b : Bool) → nat_eq o p ≡ b → RefFine image heap (if b then v.Ref p else v.UninitThis p)
      by_test true e = subst (IsThere image heap) (eqb-true o p e) h
      by_test false e = tt
  initialised_fine o h x r = r

  abbrev pub IsObjectThere : Option ℕ → Type 0
  IsObjectThere None = Unit {0}
  IsObjectThere (Some o) = IsThere image heap o

  in_fine : (x : Value) (o : Option ℕ) → IsObjectThere o → (xs : List Value) → All (RefFine image heap) xs → All (RefFine image heap) (initialised_in x o xs)
  in_fine x None h xs a = a
  in_fine x (Some o) h xs a = All-map (RefFine image heap) (initialised o) xs (All-weaker (RefFine image heap) (λ y. RefFine image heap (initialised o y)) (initialised_fine o h) xs a)

  pub object_there : (o : Option ℕ) → ((p : ℕ) → o ≡ Some p → IsThere image heap p) → IsObjectThere o
  object_there None h = tt
  object_there (Some p) h = h p refl

  pub returned_refs : (b : Bool) (g : Frame) (x : At) (p : Pending) → (b ≡ true → (k : ℕ) → receiver_of x.op ≡ Some k → IsObjectThere (object_of (reg_at g.regs k))) → All (RefFine image heap) g.regs → ResultFine image heap p → RefsFine image heap (level.Code (returned b g x p))
  returned_refs false g x p h a r = (a, r, tt)
  returned_refs true g x p h a r = by_receiver (receiver_of x.op) (h refl)
    where
      by_receiver : (o : Option ℕ) → ((k : ℕ) → o ≡ Some k → IsObjectThere (object_of (reg_at g.regs k))) → RefsFine image heap (level.Code (constructed_at g x.next p o))
      by_receiver None n = (a, r, tt)
      by_receiver (Some k) n = (in_fine (reg_at g.regs k) (object_of (reg_at g.regs k)) (n k refl) g.regs a, r, tt)
