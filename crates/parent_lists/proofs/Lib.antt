mod Carry
