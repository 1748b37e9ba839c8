use Rattle.lf_driver.proofs.outcome.put_text.Goals as goal

pub returns-in-Usage-clause-text : goal.returns-in-Usage-clause-text
returns-in-Usage-clause-text g c = rw c.in-Usage.is c.put.ensures.text

pub returns-in-ReadFault-clause-text : goal.returns-in-ReadFault-clause-text
returns-in-ReadFault-clause-text g c = rw c.in-ReadFault.is c.put-in-ReadFault.ensures.text

pub returns-in-WriteFault-clause-text : goal.returns-in-WriteFault-clause-text
returns-in-WriteFault-clause-text g c = rw c.in-WriteFault.is c.put-in-WriteFault.ensures.text

pub returns-in-Memory-clause-text : goal.returns-in-Memory-clause-text
returns-in-Memory-clause-text g c = rw c.in-Memory.is c.put-in-Memory.ensures.text
