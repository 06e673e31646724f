-- What the code answers with each reply.

use Rattle.refusals.specs.Numbers.{number}
use Rattle.certificates.specs.Filing.{FilingReply, filed, held, refused}
use Rattle.store.specs.declared.Filing.{Filing}
use Rattle.store.specs.declared.Filing.TheVariants.{Filed, Held, Refused}

-- the code's enum, case by case
abbrev pub filing_is : Filing → FilingReply
filing_is Filed = filed
filing_is Held = held
filing_is (Refused r) = refused (number r)
