-- What is found of a text of which a class is to be run.
use Rattle.std.specs.Prelude.{◌≡◌, ◌≢◌, ℕ, List, Result}
use Rattle.dv_defs.specs.declared.names.MethodId.{MethodId}
use Rattle.dv_defs.specs.Images.{Image}
use Rattle.dv_defs.specs.Pools.{Method}
use Rattle.dv_console.specs.declared.refusals.Refusal.{Refusal}
use Rattle.dv_machine.specs.Mains.{HasMain}
use Rattle.dv_top.specs.declared.preparing.Prepared.{Prepared}
use Rattle.dv_top.specs.declared.preparing.Prepared.TheVariants as prepared
use Rattle.dv_top.specs.declared.program.Program.{Program}
use Rattle.dv_top.specs.declared.status.Status.TheVariants as exit
use Rattle.dv_top.specs.Answering.{IsTold}
use Rattle.dv_top.specs.Said.{IsAccepted, IsSaidOfNoRun}
use Rattle.dv_top.specs.Status.{code_of}

-- a program that is accepted, of this image and with a main method of this number
pub record IsFound (bytes : List ℕ) (found : Result Program Refusal) (image : Image) (number : MethodId) : Type 0 where
  pub program : Program
  pub main : Method
  pub accepted : IsAccepted bytes found program main
  pub image_is : image ≡ program.image
  pub number_is : number ≡ program.main

-- that, or what is said where nothing runs
abbrev pub IsPrepared : List ℕ → Result Program Refusal → Prepared → Type 0
IsPrepared bytes found (prepared.Accepted verified main) = IsFound bytes found verified.image main
IsPrepared bytes found (prepared.Told reply) = IsSaidOfNoRun bytes found (code_of reply.status) reply.text.items

-- whatever the bytes: there is a main method, or a status that tells of the text
abbrev pub IsReady : Prepared → Type 0
IsReady (prepared.Accepted verified main) = HasMain verified.image main.0
IsReady (prepared.Told reply) = IsTold (code_of reply.status) × (code_of reply.status ≢ code_of exit.Usage)
