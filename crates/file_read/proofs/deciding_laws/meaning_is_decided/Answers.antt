use Rattle.std.proofs.Common.{inl, inr}
use Rattle.file_read.proofs.FileDecided.{framed_is_decided, decides_meant, decides_refused}
use Rattle.file_read.proofs.deciding_laws.meaning_is_decided.Goals as goal

pub returns-in-Ok-clause-decided : goal.returns-in-Ok-clause-decided
returns-in-Ok-clause-decided c = framed_is_decided c.args.bytes.now c.are_bytes.ensures.each c.in-Ok.ensures.framed.1

pub returns-in-Ok-clause-meant : goal.returns-in-Ok-clause-meant
returns-in-Ok-clause-meant c = decides_meant c.args.bytes.now (framed_is_decided c.args.bytes.now c.are_bytes.ensures.each c.in-Ok.ensures.framed.1)

pub returns-in-Ok-clause-refused : goal.returns-in-Ok-clause-refused
returns-in-Ok-clause-refused c = decides_refused c.args.bytes.now (framed_is_decided c.args.bytes.now c.are_bytes.ensures.each c.in-Ok.ensures.framed.1)

pub returns-in-Err-clause-decided : goal.returns-in-Err-clause-decided
returns-in-Err-clause-decided c = inr (c.in-Err.field-0, inl c.in-Err.ensures.fault)

pub returns-in-Err-clause-meant : goal.returns-in-Err-clause-meant
returns-in-Err-clause-meant c = decides_meant c.args.bytes.now (inr (c.in-Err.field-0, inl c.in-Err.ensures.fault))

pub returns-in-Err-clause-refused : goal.returns-in-Err-clause-refused
returns-in-Err-clause-refused c = decides_refused c.args.bytes.now (inr (c.in-Err.field-0, inl c.in-Err.ensures.fault))
