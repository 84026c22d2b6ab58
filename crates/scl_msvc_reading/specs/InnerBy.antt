-- The options of inner command lines, as the code stores them.
use Rattle.scl_msvc_reading.specs.declared.msvc.inner.options.InnerOptions.{InnerOptions}
use Rattle.scl_msvc_reading.specs.Inners.{BothInner}

abbrev pub inner_of : InnerOptions → BothInner
inner_of o = record { xclang = o.xclang.now; clang = o.clang.now }
