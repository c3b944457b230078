use Rattle.jg_record.proofs.operands.read_operand.Goals as goal

pub returns-in-Reference-clause-none : goal.returns-in-Reference-clause-none
returns-in-Reference-clause-none c = rw c.in-Reference.is c.reference.ensures.none

pub returns-in-Buffer-clause-none : goal.returns-in-Buffer-clause-none
returns-in-Buffer-clause-none c = rw c.in-Buffer.is c.buffer.ensures.none

pub returns-in-Bounded-clause-none : goal.returns-in-Bounded-clause-none
returns-in-Bounded-clause-none c = rw c.in-Bounded.is c.bounded.ensures.none

pub returns-in-Number-clause-none : goal.returns-in-Number-clause-none
returns-in-Number-clause-none c = rw c.in-Number.is c.number.ensures.none

pub returns-in-Value-clause-none : goal.returns-in-Value-clause-none
returns-in-Value-clause-none c = rw c.in-Value.is c.value.ensures.none

pub returns-in-Id-clause-none : goal.returns-in-Id-clause-none
returns-in-Id-clause-none c = rw c.in-Id.is c.id.ensures.none

pub returns-in-Class-clause-none : goal.returns-in-Class-clause-none
returns-in-Class-clause-none c = rw c.in-Class.is c.class.ensures.none

pub returns-in-Native-clause-none : goal.returns-in-Native-clause-none
returns-in-Native-clause-none c = rw c.in-Native.is c.native.ensures.none

pub returns-in-List-clause-none : goal.returns-in-List-clause-none
returns-in-List-clause-none c = rw c.in-List.is c.list.ensures.none
