-- Why the frame of an array isn't made, as a fault.
use Rattle.drg_array.specs.Entries.{Entries}
use Rattle.drg_eigen.specs.declared.fault.EigenFault.{EigenFault}
use Rattle.drg_eigen.specs.declared.fault.EigenFault.TheVariants as eigen
use Rattle.drg_matrices.specs.declared.fault.FrameFault.{FrameFault}
use Rattle.drg_matrices.specs.declared.fault.FrameFault.TheVariants as frame
use Rattle.drg_engine.specs.Frames.{HasOtherSpectrum, IsFirstTooWide}
use Rattle.drg_engine.specs.declared.spectra.SpectraFault.{SpectraFault}
use Rattle.drg_engine.specs.declared.spectra.SpectraFault.TheVariants.{Wide, Other, Memory}

-- the cause of the fault; want of memory has none
abbrev pub IsSpectraFault : Entries → SpectraFault → Type 0
IsSpectraFault a (Wide node) = IsFirstTooWide a node
IsSpectraFault a (Other other) = HasOtherSpectrum a other
IsSpectraFault a Memory = Unit {0}

-- the fault of a polynomial or of its factors, and that of a frame
abbrev pub of_eigen : EigenFault → SpectraFault
of_eigen (eigen.Wide node) = Wide node
of_eigen eigen.Memory = Memory

abbrev pub of_frame : FrameFault → SpectraFault
of_frame (frame.Wide node) = Wide node
of_frame frame.Memory = Memory
