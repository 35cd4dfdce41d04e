-- The faults of a run. (Own.)
use Rattle.lost_desk.specs.declared.faults.OpenError.{OpenError}
use Rattle.lost_desk.specs.declared.faults.OpenError.TheVariants.{Workers as OpenWorkers, Memory as OpenMemory}
use Rattle.lost_server.specs.declared.run_fault.RunFault.{RunFault}
use Rattle.lost_server.specs.declared.run_fault.RunFault.TheVariants.{Workers, Memory}

-- what a desk that could not be opened ends the run in
abbrev pub fault_of : OpenError → RunFault
fault_of OpenWorkers = Workers
fault_of OpenMemory = Memory
