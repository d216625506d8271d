-- The exceptions that a step makes itself.
use Rattle.std.proofs.Common.{◌≡◌, ℕ, List, [], true, not, Option, Some, refl, sym, ap, ◌∙◌, subst, arith}
use Rattle.std.specs.Option.{unwrap_or}
use Rattle.dv_defs.specs.Images.{Image}
use Rattle.dv_defs.specs.declared.run.Named.{Named}
use Rattle.dv_defs.specs.declared.run.Named.TheVariants as named
use Rattle.dv_defs.specs.declared.run.Preallocated.{Preallocated}
use Rattle.dv_machine.specs.Kind as kind
use Rattle.dv_defs.specs.Names.{throwable_name, stack_overflow_name}
use Rattle.dv_defs.specs.Types.{of_class}
use Rattle.dv_defs.specs.Pools.{class_named, name_at}
use Rattle.dv_defs.specs.Order.{fits}
use Rattle.dv_machine.specs.Heap.{Heap, newest}
use Rattle.dv_machine.specs.Unwinding.{number_named, exception_name, made_object}
use Rattle.dv_machine.specs.Conforming.{is_string_or_class}
use Rattle.dv_machine.specs.WellTyped.{Typings, IsThrowable, IsObjectOf, PreallocatedFine, HeapFine}
use Rattle.dv_machine.specs.Accepted.{Accepted, IsNamed}
use Rattle.law_machine.specs.StepLaws.{IsAdded}
use Rattle.law_types.proofs.Walks.{named_is}
use Rattle.law_machine.proofs.lemmas.Heap.Added.{object_is_added}

number_is : (image : Image) (name : List ℕ) (c : ℕ) → class_named image name ≡ Some c → number_named image name ≡ c
number_is image name c e = ap (λ (x : Option ℕ). unwrap_or x 0) e

-- the class of a named exception has its name
pub exception_class : (image : Image) (T : Typings) → Accepted image T → (n : Named) → name_at image (number_named image (exception_name n)) ≡ exception_name n
exception_class image T acc n = let p = acc.boot.exceptions n in ap (name_at image) (number_is image (exception_name n) p.0 p.1) ∙ named_is image (exception_name n) p.0 p.1

exception_proper : (n : Named) → not (is_string_or_class (exception_name n)) ≡ true
exception_proper named.Arithmetic = refl
exception_proper named.NullPointer = refl
exception_proper named.NegativeArraySize = refl
exception_proper named.ArrayIndex = refl
exception_proper named.ArrayStore = refl
exception_proper named.ClassCast = refl
exception_proper named.IllegalMonitorState = refl
exception_proper named.IllegalThreadState = refl
exception_proper named.IndexOutOfBounds = refl
exception_proper named.OutOfMemory = refl
exception_proper named.NoClassDef = refl
exception_proper named.InInitializer = refl
exception_proper named.ClassChange = refl
exception_proper named.AbstractMethod = refl

-- an object of a class under Throwable, which the image has by its name, can be thrown
of_thrown_class : (image : Image) (heap : Heap) (o : ℕ) (name : List ℕ) → name_at image (number_named image name) ≡ name → not (is_string_or_class name) ≡ true → fits image (of_class name) (of_class throwable_name) ≡ true → IsObjectOf image heap name o → IsThrowable image heap o
of_thrown_class image heap o name own proper under e = record {
  object = record {
    kind = kind.Object (record { 0 = number_named image name });
    has_kind = e;
    proper = subst (λ (x : List ℕ). not (is_string_or_class x) ≡ true) (sym own) proper;
  };
  fits = subst (λ (x : List ℕ). fits image (of_class x) (of_class throwable_name) ≡ true) (sym own) under;
}

-- an object of a named exception can be thrown
pub exception_thrown : (image : Image) (T : Typings) → Accepted image T → (heap : Heap) (o : ℕ) (n : Named) → IsObjectOf image heap (exception_name n) o → IsThrowable image heap o
exception_thrown image T acc heap o n e = of_thrown_class image heap o (exception_name n) (exception_class image T acc n) (exception_proper n) (acc.boot.thrown n) e

-- so can the two of the opening
pub record BothThrown (image : Image) (heap : Heap) (p : Preallocated) : Type 0 where
  pub out_of_memory : IsThrowable image heap p.out_of_memory
  pub stack_overflow : IsThrowable image heap p.stack_overflow

pub both_thrown : (image : Image) (T : Typings) → Accepted image T → (heap : Heap) (p : Preallocated) → PreallocatedFine image heap p → BothThrown image heap p
both_thrown image T acc heap p fine = record {
  out_of_memory = exception_thrown image T acc heap p.out_of_memory named.OutOfMemory fine.out_of_memory;
  stack_overflow = of_thrown_class image heap p.stack_overflow stack_overflow_name own refl acc.boot.overflows fine.stack_overflow;
}
  where
    there : IsNamed image stack_overflow_name
    there = acc.boot.there 6 [] (omega arith)

    own : name_at image (number_named image stack_overflow_name) ≡ stack_overflow_name
    own = ap (name_at image) (number_is image stack_overflow_name there.0 there.1) ∙ named_is image stack_overflow_name there.0 there.1

-- a new exception is an added object that can be thrown
pub record IsMadeException (image : Image) (before after : Heap) (n : Named) : Type 0 where
  pub added : IsAdded image before after (newest after) (kind.Object (record { 0 = number_named image (exception_name n) }))
  pub thrown : IsThrowable image after (newest after)

pub made_exception : (image : Image) (T : Typings) → Accepted image T → (before after : Heap) (n : Named) → HeapFine image before → made_object image before n ≡ Some after → IsMadeException image before after n
made_exception image T acc before after n fine e = let a = object_is_added image before after (number_named image (exception_name n)) fine e in record { added = a; thrown = exception_thrown image T acc after (newest after) n a.made }
