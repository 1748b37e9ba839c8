-- What an error of the system means.
use Rattle.std.specs.declared.io.ErrorKind.{ErrorKind}
use Rattle.std.specs.declared.io.ErrorKind.TheVariants.{NotFound, NotADirectory, OutOfMemory}
use Rattle.lf_base.specs.declared.fault.GetFault.{GetFault}
use Rattle.lf_base.specs.declared.fault.GetFault.TheVariants.{Absent, Failed, Memory}
use Rattle.lf_base.specs.declared.fault.PutFault.{PutFault}
use Rattle.lf_base.specs.declared.fault.PutFault.TheVariants as putting

-- where a file is opened: only a name that leads to nothing is absent
abbrev pub fault_of : ErrorKind → GetFault
fault_of NotFound = Absent
fault_of NotADirectory = Absent
fault_of OutOfMemory = Memory
fault_of _ = Failed

-- where a file is made
abbrev pub put_fault_of : ErrorKind → PutFault
put_fault_of OutOfMemory = putting.Memory
put_fault_of _ = putting.Failed
