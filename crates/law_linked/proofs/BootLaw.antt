-- A linked image has the boot classes that a step names, each with what the step counts on.
use Rattle.dv_defs.specs.Images.{Image}
use Rattle.dv_defs.specs.Linked.{IsImage}
use Rattle.dv_machine.specs.Accepted.{HasBoot}
use Rattle.law_linked.proofs.BootParts.{boot_there, boot_exceptions, boot_thrown, boot_overflows, boot_no_bare, boot_alone, boot_no_fields, boot_out}
use Rattle.law_linked.proofs.BootCause.{boot_cause}

pub image_boot : (image : Image) → IsImage image → HasBoot image
image_boot image is =
    record {
      there = boot_there image is;
      exceptions = boot_exceptions image is;
      thrown = boot_thrown image is;
      overflows = boot_overflows image is;
      no_bare = boot_no_bare image is;
      alone = boot_alone image is;
      no_fields = boot_no_fields image is;
      cause = boot_cause image is;
      out = boot_out image is;
    }
