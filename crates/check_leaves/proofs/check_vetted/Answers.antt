use Rattle.std.proofs.Common.{rules}
use Rattle.check_polarity.specs.Earlier.{earlier_is}
use Rattle.check_leaves.proofs.Leaving.{vetted_reads}
use Rattle.check_leaves.proofs.check_vetted.Goals as goal

pub returns-in_err-issuer : goal.returns-in_err-issuer
returns-in_err-issuer c = rw (vetted_reads (earlier_is c.args.earlier.now) c.args.variables c.args.decoder.now.words.now c.args.decoder.now.draws) (search rules)

pub returns-in_err-word_up_to : goal.returns-in_err-word_up_to
returns-in_err-word_up_to c = rw (vetted_reads (earlier_is c.args.earlier.now) c.args.variables c.args.decoder.now.words.now c.args.decoder.now.draws) (search rules)

pub returns-in_err-guarded : goal.returns-in_err-guarded
returns-in_err-guarded c = rw (vetted_reads (earlier_is c.args.earlier.now) c.args.variables c.args.decoder.now.words.now c.args.decoder.now.draws) (search rules)

pub returns-in_err-absent_from : goal.returns-in_err-absent_from
returns-in_err-absent_from c = rw (vetted_reads (earlier_is c.args.earlier.now) c.args.variables c.args.decoder.now.words.now c.args.decoder.now.draws) (search rules)

pub returns : goal.returns
returns c = rw (vetted_reads (earlier_is c.args.earlier.now) c.args.variables c.args.decoder.now.words.now c.args.decoder.now.draws) (search rules)
